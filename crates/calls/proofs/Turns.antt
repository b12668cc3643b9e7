-- The turns of a run: what is left, stored from here, gives the whole, so nothing is added at the end of what is stored. Assumes nothing.
use mathlib.Core.Path.{◌≡◌, refl, sym, ap, subst, ◌∙◌}
use mathlib.Core.List.{List, [], ◌∷◌, ◌++◌}
use Prim.Native.Nat.{ℕ, zero, suc, ◌+◌, ◌-◌, ◌*◌, ◌≤◌, ◌<◌}
use native.Mathlib.Omega.{arith}
use lib.ListN.{length, take, drop, length-append, length-drop}
use lib.Seq.{sets, take_all}
use Rattle.session.specs.declared.Session.{Session}
use Rattle.session.specs.declared.Served.{Served}
use Rattle.session.specs.Call.{Call}
use Rattle.session.specs.Outcome.{Outcome}
use Rattle.session.specs.Ledger.{Ledger, empty_ledger, entered, outcomes_at}
use Rattle.session.specs.Served.{outcome_of, fresh_session, Valid}
use Rattle.session.specs.Stands.{session_of}
use Rattle.session.specs.Meets.{Meets}
use Rattle.stores.proofs.Runs.{sets_then, sets_part, sets_front}
use Rattle.answers.specs.Answers.{answer_words, answer_record, answer_records}
use Rattle.answers.proofs.Laid.{length-answer}
use Rattle.calls.specs.Records.{call_words, Slices, call_of, call_at, calls_from, call_count}

-- the calls from a place are the one there and those after it
calls_more : (n m : ℕ) (records : List ℕ) (slices : Slices) (at : ℕ) → n ≡ suc m
    → calls_from n records slices at ≡ call_at records slices at ∷ calls_from m records slices (at + call_words)
unfolding calls_from
calls_more n m records slices at e = rw e

calls_none : (n : ℕ) (records : List ℕ) (slices : Slices) (at : ℕ) → n ≡ 0 → calls_from n records slices at ≡ []
unfolding calls_from
calls_none n records slices at e = rw e

-- the answers by the ledger l, of so many calls from a place
module _ (records : List ℕ) (slices : Slices) where
  abbrev pub answers_from : Ledger → ℕ → ℕ → List ℕ
  answers_from l n at = answer_records (outcomes_at l (calls_from n records slices at))

  answers_more : (l : Ledger) (n m at : ℕ) → n ≡ suc m
      → answers_from l n at
      ≡ answer_record (entered l (call_at records slices at)).outcome
      ++ answers_from (entered l (call_at records slices at)).ledger m (at + call_words)
  unfolding answer_records
  answers_more l n m at e = ap (λ (cs : List Call). answer_records (outcomes_at l cs)) (calls_more n m records slices at e)

  answers_none : (l : Ledger) (n at : ℕ) → n ≡ 0 → answers_from l n at ≡ []
  unfolding answer_records
  answers_none l n at e = ap (λ (cs : List Call). answer_records (outcomes_at l cs)) (calls_none n records slices at e)

  pub length-answers : (l : Ledger) (n at : ℕ) → length (answers_from l n at) ≡ answer_words * n
  length-answers l zero at = ap length (answers_none l zero at refl)
  length-answers l (suc n) at =
      let o : Outcome = (entered l (call_at records slices at)).outcome in
      let next : Ledger = (entered l (call_at records slices at)).ledger in
      ap length (answers_more l (suc n) n at refl) ∙ length-append (answer_record o) (answers_from next n (at + call_words))
      ∙ omega (arith, length-answer o, length-answers next n (at + call_words))

  -- the rest of the records, as it is lent, is the rest
  rest_lent : (at : ℕ) → take (length records - at) (drop at records) ≡ drop at records
  rest_lent at = take_all (length records - at) (drop at records) (omega (arith, length-drop at records))

  -- where a run stands after i calls: some ledger that the session stands for, whose answers to the calls left, stored from here, give those to the
  -- whole list stored into the buffer as it was
  module _ (before : List ℕ) where
    pub record Along (i : ℕ) (buffer : List ℕ) (s : Session) : Type 0 where
      pub valid : Valid s
      pub ledger : Ledger
      pub stands : s ≡ session_of ledger
      pub rest : sets buffer (i * answer_words) (answers_from ledger (call_count records - i) (i * call_words))
          ≡ sets before 0 (answers_from empty_ledger (call_count records) 0)

    pub along_start : {s : Session} → s ≡ fresh_session → Valid s → Along 0 before s
    along_start e v =
        let all : call_count records - 0 ≡ call_count records = omega arith in
        record { valid = v; ledger = empty_ledger; stands = e; rest = ap (λ (n : ℕ). sets before 0 (answers_from empty_ledger n 0)) all }

    -- k is the length of the part that is lent, ys what the writer leaves there
    pub along_next : {i : ℕ} {buffer : List ℕ} {s : Session} {r : Served} (k : ℕ) (ys : List ℕ) → Along i buffer s → i < call_count records
        → Meets s (call_of (take (length records - i * call_words) (drop (i * call_words) records)) slices) r
        → i * answer_words ≤ length buffer → length buffer - i * answer_words ≡ k
        → ys ≡ sets (take k (drop (i * answer_words) buffer)) 0 (answer_record (outcome_of r.answer))
        → Along (i + 1) (take (i * answer_words) buffer ++ (ys ++ drop k (drop (i * answer_words) buffer))) r.session
    along_next {i} {buffer} {s} {r} k ys a h made f g q =
        let l : Ledger = a.ledger in
        let from : ℕ = i * call_words in
        let to : ℕ = i * answer_words in
        let left : ℕ = call_count records - i in
        let c : Call = call_at records slices from in
        let o : Outcome = (entered l c).outcome in
        let m : Meets s c r = subst (λ (words : List ℕ). Meets s (call_of words slices) r) (rest_lent from) made in
        let more : List ℕ = answers_from (entered l c).ledger (left - 1) (from + call_words) in
        let after : List ℕ = take to buffer ++ (ys ++ drop k (drop to buffer)) in
        let to_next : (i + 1) * answer_words ≡ to + answer_words = omega arith in
        let from_next : (i + 1) * call_words ≡ from + call_words = omega arith in
        let left_next : call_count records - (i + 1) ≡ left - 1 = omega arith in
        record {
          valid = m.valid;
          ledger = (entered l c).ledger;
          stands = m.next l a.stands;
          rest =
              (λ j. sets after (to_next j) (answers_from (entered l c).ledger (left_next j) (from_next j)))
              ∙ ap (λ (d : List ℕ). sets (take to buffer ++ (d ++ drop k (drop to buffer))) (to + answer_words) more)
              (q ∙ ap (λ (x : Outcome). sets (take k (drop to buffer)) 0 (answer_record x)) (m.outcome l a.stands))
              ∙ ap (λ (d : List ℕ). sets d (to + answer_words) more) (sets_part buffer to k (answer_record o) f g)
              ∙ sets_then buffer to answer_words (answer_record o) more (length-answer o)
              ∙ ap (λ (xs : List ℕ). sets buffer to xs) (sym (answers_more l left (left - 1) from (omega arith)))
              ∙ a.rest;
        }

    pub along_end : {i : ℕ} {buffer : List ℕ} {s : Session} → Along i buffer s → call_count records ≤ i
        → call_count records * answer_words ≤ length before
        → buffer ≡ answers_from empty_ledger (call_count records) 0 ++ drop (answer_words * call_count records) before
    along_end {i} {buffer} a h f =
        let whole : List ℕ = answers_from empty_ledger (call_count records) 0 in
        let n : length whole ≡ answer_words * call_count records = length-answers empty_ledger (call_count records) 0 in
        ap (λ (xs : List ℕ). sets buffer (i * answer_words) xs) (sym (answers_none a.ledger (call_count records - i) (i * call_words) (omega arith)))
        ∙ a.rest
        ∙ sets_front before whole (omega arith)
        ∙ ap (λ (k : ℕ). whole ++ drop k before) n
