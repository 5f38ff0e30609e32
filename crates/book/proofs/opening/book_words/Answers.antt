-- `book_words`: a law of `words_for` for each way out.
use Rattle.std.proofs.Common.{◌∙◌, arith}
use Rattle.book.proofs.Laws.Opening.OpeningLaws.{words_none, words_some}
use Rattle.book.proofs.opening.book_words.Goals as goal

pub returns-in-None : goal.returns-in-None
returns-in-None c = (words_none _ c.in-None.ensures, omega arith)

pub returns-in-Some : goal.returns-in-Some
returns-in-Some c = let w = c.in-Some.ensures in (w.1 ∙ words_some _ w.0, w.2)
