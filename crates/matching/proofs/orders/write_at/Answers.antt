-- `write_at`: six stores at place k.
use Rattle.matching.specs.Memory.{as_order}
use Rattle.matching.proofs.Laws.Orders.OrderLaws.{order_written, past_written}
use Rattle.matching.proofs.orders.write_at.Goals as goal

pub returns : goal.returns
returns c =
    let a = c.args in (
      order_written a.orders.now a.n a.k (as_order a.o) c.requires.1 c.requires.0,
      past_written a.orders.now a.n a.k (as_order a.o)
          c.requires.1 c.requires.0,
    )
