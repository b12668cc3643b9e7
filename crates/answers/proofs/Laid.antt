-- The words of an answer: each part that the code makes is the definition's, and there are thirty-two of them. Assumes nothing.
use mathlib.Core.Path.{◌≡◌, refl, ap, sym, ◌∙◌}
use mathlib.Core.List.{List, [], ◌∷◌, ◌++◌, map}
use Prim.Native.Nat.{ℕ, suc, ◌+◌, ◌-◌, ◌*◌, ◌≤◌, ◌<◌}
use native.Mathlib.Omega.{arith}
use lib.ListN.{length, take, drop, set, get_or, replicate, length-append, length-replicate}
use Rattle.std.proofs.Common.{append_assoc}
use Rattle.std.proofs.Math.Seq.{take-append-add}
use Rattle.std.proofs.lemmas.List.{drop-replicate, take-replicate, map_more, length-take-le, length-map, take_all}
use Rattle.std.specs.Prelude.{Option, Some, None}
use Rattle.causes.specs.Causes as causes
use Rattle.cie.specs.declared.Chromaticity.{Chromaticity}
use Rattle.cie.specs.declared.Colour.{Colour}
use Rattle.endian.specs.Bytes.{twos}
use Rattle.tallies.specs.declared.Tallies.{Tallies}
use Rattle.tallies.specs.ByTable.{table_count}
use Rattle.looks.specs.Look.{previewed, found}
use Rattle.session.specs.Outcome.{VerdictCounts, Outcome, accepted, coloured, tried, counted, seen, refused}
use Rattle.session.specs.Served.{counts_of}
use Rattle.answers.specs.Answers.{answer_words, chromaticity_words, colour_words, trial_words, padded, set_words, answer_record}

-- how long an answer is
length-padded : (words : List ℕ) → length (padded words) ≡ answer_words
length-padded words =
    length-take-le answer_words (words ++ replicate answer_words 0)
    (omega (arith, length-append words (replicate answer_words 0), length-replicate {A = ℕ} answer_words 0))

pub length-answer : (o : Outcome) → length (answer_record o) ≡ answer_words
unfolding answer_record
length-answer accepted = refl
length-answer (coloured colour) = length-padded (1 ∷ colour_words colour)
length-answer (tried t) = length-padded (2 ∷ trial_words t)
length-answer (counted r) = length-padded (3 ∷ set_words r.sets)
length-answer (seen (causes.accepted (previewed t))) = length-padded (5 ∷ trial_words t)
length-answer (seen (causes.accepted (found a))) = refl
length-answer (seen (causes.refused cause)) = refl
length-answer (refused cause) = refl

-- words stored over the zeros of an answer
pub padded_over : (words : List ℕ) → length words ≤ answer_words → words ++ drop (length words) (replicate answer_words 0) ≡ padded words
padded_over words h =
    let n : ℕ = answer_words - length words in
    let e : length words + n ≡ answer_words = omega arith in
    ap (λ (zeros : List ℕ). words ++ zeros) (drop-replicate (length words) answer_words 0 ∙ sym (take-replicate n answer_words 0 (omega arith)))
    ∙ sym (take-append-add words (replicate answer_words 0) n)
    ∙ ap (λ (k : ℕ). take k (words ++ replicate answer_words 0)) e

-- the words of a colour around those of its chromaticity, and three words more
abbrev around : Colour → List ℕ → List ℕ → List ℕ
around c place more =
    1 ∷ c.tristimulus.x ∷ c.tristimulus.y ∷ c.tristimulus.z
    ∷ ((place ++ (c.l ∷ twos c.a ∷ twos c.b ∷ twos c.u ∷ twos c.v ∷ c.cab ∷ c.cuv ∷ [])) ++ more)

-- a colour alone has zeros in the place of E and the verdict
pub colour_alone : (c : Colour) → padded (1 ∷ (colour_words c ++ (0 ∷ 0 ∷ 0 ∷ []))) ≡ padded (1 ∷ colour_words c)
colour_alone c = go c.chromaticity
  where
    go : (p : Option Chromaticity)
        → padded (around c (chromaticity_words p) (0 ∷ 0 ∷ 0 ∷ []))
        ≡ padded
        (1 ∷ c.tristimulus.x ∷ c.tristimulus.y ∷ c.tristimulus.z
        ∷ (chromaticity_words p ++ (c.l ∷ twos c.a ∷ twos c.b ∷ twos c.u ∷ twos c.v ∷ c.cab ∷ c.cuv ∷ [])))
    go None = refl
    go (Some p) = refl

-- three words more in the place of zeros
put_three : (xs : List ℕ) (n a b c : ℕ)
    → set (set (set (xs ++ replicate (suc (suc (suc n))) 0) (length xs) a) (suc (length xs)) b) (suc (suc (length xs))) c
    ≡ xs ++ (a ∷ b ∷ c ∷ replicate n 0)
put_three [] n a b c = refl
put_three (x ∷ xs) n a b c = ap (λ (ys : List ℕ). x ∷ ys) (put_three xs n a b c)

length-set_words : (sets : List VerdictCounts) → length (set_words sets) ≡ 3 * length sets
length-set_words [] = refl
length-set_words (n ∷ sets) = omega (arith, length-set_words sets)

set_words-append : (sets more : List VerdictCounts) → set_words (sets ++ more) ≡ set_words sets ++ set_words more
set_words-append [] more = refl
set_words-append (n ∷ sets) more = ap (λ (words : List ℕ). n.passed ∷ n.failed ∷ n.line ∷ words) (set_words-append sets more)

-- a report with the tallies of its first tables, and zeros
abbrev pub report_begun : List Tallies → ℕ → List ℕ
report_begun sets i = (3 ∷ set_words (map counts_of (take i sets))) ++ replicate (31 - 3 * i) 0

length-begun : (sets : List Tallies) (i : ℕ) → i ≤ length sets → length (3 ∷ set_words (map counts_of (take i sets))) ≡ 3 * i + 1
length-begun sets i h =
    omega (arith, length-set_words (map counts_of (take i sets)), length-map (take i sets) counts_of, length-take-le i sets h)

pub report_more : (sets : List Tallies) (i : ℕ) (none : Tallies) → i < table_count → i < length sets
    → let t = get_or sets i none in
    set (set (set (report_begun sets i) (3 * i + 1) t.passed) (3 * i + 2) t.failed) (3 * i + 3) t.line ≡ report_begun sets (i + 1)
report_more sets i none h k =
    let t = get_or sets i none in
    let before : List ℕ = 3 ∷ set_words (map counts_of (take i sets)) in
    let n : ℕ = 31 - 3 * (i + 1) in
    let long = length-begun sets i (omega arith) in
    let left : 31 - 3 * i ≡ suc (suc (suc n)) = omega arith in
    let first : 3 * i + 1 ≡ length before = omega arith in
    let second : 3 * i + 2 ≡ suc (length before) = omega arith in
    let third : 3 * i + 3 ≡ suc (suc (length before)) = omega arith in
    (λ j. set (set (set (before ++ replicate (left j) 0) (first j) t.passed) (second j) t.failed) (third j) t.line)
    ∙ put_three before n t.passed t.failed t.line
    ∙ sym (append_assoc before (t.passed ∷ t.failed ∷ t.line ∷ []) (replicate n 0))
    ∙ ap (λ (words : List ℕ). (3 ∷ words) ++ replicate n 0)
    (sym (ap set_words (map_more counts_of sets i none k) ∙ set_words-append (map counts_of (take i sets)) (counts_of t ∷ [])))

pub report_whole : (sets : List Tallies) → length sets ≡ table_count → report_begun sets table_count ≡ padded (3 ∷ set_words (map counts_of sets))
report_whole sets h =
    let words : List ℕ = 3 ∷ set_words (map counts_of sets) in
    let long : length words ≡ 25 = omega (arith, length-set_words (map counts_of sets), length-map sets counts_of) in
    ap (λ (xs : List Tallies). (3 ∷ set_words (map counts_of xs)) ++ replicate 7 0) (take_all table_count sets (omega arith))
    ∙ ap (λ (k : ℕ). words ++ drop k (replicate answer_words 0)) (sym long)
    ∙ padded_over words (omega arith)
