-- The words stand at the front, and the zeros after them are as they were.
use Rattle.std.proofs.Common.{ℕ, List, ap, ◌++◌, ◌∙◌, drop, replicate, length}
use Rattle.answers.specs.Answers.{answer_words}
use Rattle.answers.proofs.Laid.{padded_over}
use Rattle.answers.proofs.padded.Goals as goal

pub returns : goal.returns
returns c =
    ap (λ (words : List ℕ). words ++ drop (length c.args.words.now) (replicate answer_words 0)) c.copy_from_slice.ensures.after
    ∙ padded_over c.args.words.now c.requires
