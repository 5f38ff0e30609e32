-- `read_byte`: each state goes on as its own function says.
use Rattle.lines.proofs.ReadingLaws.{space_first, lost_stays}
use Rattle.lines.proofs.reading.read_byte.Goals as goal

pub returns-in-Start : goal.returns-in-Start
returns-in-Start c = rw c.in-Start.is (c.after_start.ensures _)

pub returns-in-Letter : goal.returns-in-Letter
returns-in-Letter c = rw c.in-Letter.is (c.after_letter.ensures _)

pub returns-in-Space : goal.returns-in-Space
returns-in-Space c =
    rw c.in-Space.is (space_first _ _ _ _ _ (λ ne. c.after_digit.ensures.more ne _) c.after_digit.ensures.space)

pub returns-else-byte-eq32 : goal.returns-else-byte-eq32
returns-else-byte-eq32 c = rw c.in-Digits.is (c.after_digit-in-Digits.ensures.more c.if-byte-eq32.false _)

pub returns-in-Lost : goal.returns-in-Lost
returns-in-Lost c = rw c.in-Lost.is (lost_stays _ _)
