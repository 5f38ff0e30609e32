-- `put_words`: what the words written give, in their order.
use Rattle.std.proofs.Common.{refl}
use Rattle.book.proofs.offering.put_words.Goals as goal

pub returns : goal.returns
returns c = refl
