-- `put_field`: the kit writes the digits at the end of 20 bytes.
use mathlib.Core.Path.{ap}
use native.Mathlib.Omega.{arith}
use lib.ListN.{length, length-append}
use Rattle.lines.proofs.PuttingLaws.{kit_short, decimal_short, field_put, digits_last}
use Rattle.lines.proofs.printing.put_field.Goals as goal

pub write_digits-first-requires : goal.write_digits-first-requires
write_digits-first-requires c = (kit_short c.args.n c.ranges.n.fits, omega arith)

pub put_text-requires-2 : goal.put_text-requires-2
put_text-requires-2 c =
    let d = digits_last c.args.n c.write_digits-first.result c.write_digits-first.new.buf c.ranges.n.fits c.write_digits-first.auto.buf c.write_digits-first.ensures.written in
    rw d (omega (arith, decimal_short c.args.n c.ranges.n.fits, simp length-append at (ap length c.put_text.ensures)))

pub returns : goal.returns
returns c =
    let d = digits_last c.args.n c.write_digits-first.result c.write_digits-first.new.buf c.ranges.n.fits c.write_digits-first.auto.buf c.write_digits-first.ensures.written in
    record {
      puts = field_put _ _ _ _ _ c.put_text.ensures c.put_text-2.ensures d;
      short =
          omega (
            arith,
            decimal_short c.args.n c.ranges.n.fits,
            simp length-append at (ap length c.put_text.ensures),
            simp length-append at (ap length (rw d at c.put_text-2.ensures)),
          );
    }
