-- Answers as records of 32-bit words. This is the one place where they are laid out. Assumes nothing.
--
-- An answer is thirty-two words. The first says what it is:
--   0  accepted
--   1  a colour: words 1 to 13
--   2  a trial: its colour (1 to 13), the space of E (14: 0 is CIELAB, 1 is CIELUV), E (15), the verdict (16: 0 is pass, 1 is fail, 2 is on the line)
--   3  tallies: pass, fail, on the line, of inspection table 1 (1 to 3), of 2 (4 to 6), and so on to 8 (22 to 24)
--   4  refused: the cause (1)
--   5  a preview: what a trial would answer, laid out as that is (1 to 16)
--   6  the nearest shade: full comparisons made (1), the best shade's number (2), the gap (3), E (4), both in CIELAB
-- A colour is X, Y, Z, whether it has a chromaticity (1 or 0), x, y (0 where it has none), L, a, b, u, v, CIELAB chroma, CIELUV chroma; a, b, u
-- and v are signed, in two's complement. Words that an answer does not name are 0.
use Rattle.std.specs.Prelude.{List, [], ◌∷◌, ◌++◌, ℕ, take, replicate, Option, Some, None}
use Rattle.causes.specs.Causes as causes
use Rattle.endian.specs.Bytes.{twos}
use Rattle.cie.specs.declared.Chromaticity.{Chromaticity}
use Rattle.cie.specs.declared.Colour.{Colour}
use Rattle.cie.specs.declared.Space.{Space}
use Rattle.cie.specs.declared.Space.TheVariants.{Cielab, Cieluv}
use Rattle.cie.specs.declared.Verdict.{Verdict}
use Rattle.cie.specs.declared.Verdict.TheVariants.{Pass, Fail, OnTheLine}
use Rattle.trials.specs.Outcome.{TrialOutcome}
use Rattle.nearest.specs.Rule.{NearestOutcome}
use Rattle.looks.specs.Look.{previewed, found}
use Rattle.session.specs.Outcome.{VerdictCounts, Outcome, accepted, coloured, tried, counted, seen, refused}

abbrev pub answer_words : ℕ
answer_words = 32

abbrev pub chromaticity_words : Option Chromaticity → List ℕ
chromaticity_words None = 0 ∷ 0 ∷ 0 ∷ []
chromaticity_words (Some p) = 1 ∷ p.x ∷ p.y ∷ []

abbrev pub colour_words : Colour → List ℕ
colour_words c =
    (c.tristimulus.x ∷ c.tristimulus.y ∷ c.tristimulus.z ∷ [])
    ++ (chromaticity_words c.chromaticity
    ++ (c.l ∷ twos c.a ∷ twos c.b ∷ twos c.u ∷ twos c.v ∷ c.cab ∷ c.cuv ∷ []))

abbrev pub space_word : Space → ℕ
space_word Cielab = 0
space_word Cieluv = 1

abbrev pub verdict_word : Verdict → ℕ
verdict_word Pass = 0
verdict_word Fail = 1
verdict_word OnTheLine = 2

-- words, and zeros up to the length of an answer
abbrev pub padded : List ℕ → List ℕ
padded words = take answer_words (words ++ replicate answer_words 0)

abbrev pub trial_words : TrialOutcome → List ℕ
trial_words t = colour_words t.colour ++ (space_word t.e.space ∷ t.e.units ∷ verdict_word t.verdict ∷ [])

abbrev pub nearest_words : NearestOutcome → List ℕ
nearest_words a = a.count ∷ a.shade ∷ a.gap ∷ a.e ∷ []

abbrev pub refused_record : ℕ → List ℕ
refused_record cause = padded (4 ∷ cause ∷ [])

-- the tallies of some tables, one after the other
abbrev pub set_words : List VerdictCounts → List ℕ
set_words [] = []
set_words (n ∷ sets) = n.passed ∷ n.failed ∷ n.line ∷ set_words sets

unfoldable pub answer_record : Outcome → List ℕ
answer_record accepted = padded (0 ∷ [])
answer_record (coloured colour) = padded (1 ∷ colour_words colour)
answer_record (tried t) = padded (2 ∷ trial_words t)
answer_record (counted r) = padded (3 ∷ set_words r.sets)
answer_record (seen (causes.accepted (previewed t))) = padded (5 ∷ trial_words t)
answer_record (seen (causes.accepted (found a))) = padded (6 ∷ nearest_words a)
answer_record (seen (causes.refused cause)) = refused_record cause
answer_record (refused cause) = refused_record cause

-- the answers of some outcomes, one after the other
unfoldable pub answer_records : List Outcome → List ℕ
answer_records [] = []
answer_records (o ∷ os) = answer_record o ++ answer_records os
