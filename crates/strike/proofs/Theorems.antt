-- The claims of specs/Claims.antt: a book is the book of its shades, so a strike leaves the book of those that remain, whether it takes one out or is
-- refused because there is none. Assumes nothing.
use mathlib.Core.Path.{◌≡◌, refl, sym, ap, subst, ◌∙◌}
use mathlib.Core.Bool.{Bool, true, false}
use Prim.Native.Nat.{ℕ, ◌+◌, ◌<◌}
use native.Mathlib.Omega.{arith}
use mathlib.Core.List.{List}
use lib.ListN.{length}
use lib.Seq.{take_at, take-length}
use borrow.Author.Tests.{not-false}
use Rattle.causes.specs.declared.Cause.{Cause}
use Rattle.causes.specs.declared.Cause.TheVariants.{NotABook, NoSuchShade, UnknownSpacing}
use Rattle.std.specs.Prelude.{Ok, Err}
use Rattle.causes.specs.Causes.{accepted, refusal}
use Rattle.causes.specs.Checks.{first_of, unless}
use Rattle.causes.proofs.Checks.{clear_at, refuses, numbered_accepted}
use Rattle.cie.specs.Spacing.{unknown_spacing, rows_at}
use Rattle.cie.proofs.TableRows.{rows_few}
use Rattle.endian.specs.Bytes.{AllBelow}
use Rattle.book.specs.Book.{entry_length, body_length, book_of, numbers_of, readings_of, is_book, is_in, shade_of}
use Rattle.book.specs.Reading.{shade_checks, read_checks, found, places_after_read}
use Rattle.book.proofs.Outcomes.{no_book, right_places}
use Rattle.book.proofs.Whole.{book_of_shades}
use Rattle.book_writer.proofs.Shades.{Shades, makes_book, numbers_back, readings_back}
use Rattle.strike.specs.Striking.{remaining, strike_checks, book_without, struck, closed_up, buffer_after_strike}
use Rattle.strike.specs.Claims.{book_left, BothStruck, EitherOrder, TakenOut, StrikeTakesOut}
use Rattle.strike.proofs.Remaining.{all_remain, remain_either, gone, others_stay, same_spectrum}
use Rattle.strike.proofs.Kept.{book_shades, shades_left}
use Rattle.strike.proofs.StruckOut.{shorter_by}
use Rattle.strike.proofs.Outcomes.{unknown_spacing_lem, known_spacing, strike_refused, strike_accepted}

-- what a strike leaves as a book, by what its checks found
module _ (spacing number : ℕ) (s : List ℕ) where
  refused_leaves : (c : Cause) → first_of (strike_checks spacing number s) ≡ Err c → book_left spacing number s ≡ s
  unfolding book_left struck buffer_after_strike unless
  refused_leaves c e = rw e (take-length s)

  accepted_leaves : first_of (strike_checks spacing number s) ≡ Ok tt → book_left spacing number s ≡ book_without (rows_at spacing) number s
  unfolding book_left struck buffer_after_strike unless
  accepted_leaves e = rw e (take_at (book_without (rows_at spacing) number s) _ (length (book_without (rows_at spacing) number s)) refl)

-- the book of some shades at a spacing, and the book of those that remain without a number
abbrev book_at : ℕ → List ℕ → List ℕ → List ℕ
book_at spacing ns rs = book_of (rows_at spacing) ns rs

abbrev rest_at : ℕ → ℕ → List ℕ → List ℕ → List ℕ
rest_at spacing number ns rs = book_at spacing (remaining 1 number ns ns) (remaining (rows_at spacing) number ns rs)

-- a strike in the book of some shades
module _ (spacing : ℕ) (known : unknown_spacing spacing ≡ false) (ns rs : List ℕ) (h : Shades (rows_at spacing) ns rs) where
  fits : body_length (rows_at spacing) < 65536
  fits = omega (arith, rows_few spacing)

  is : is_book (rows_at spacing) (book_at spacing ns rs) ≡ true
  is = makes_book (rows_at spacing) fits ns rs h

  numbers : numbers_of (book_at spacing ns rs) ≡ ns
  numbers = numbers_back (rows_at spacing) fits ns rs h

  readings : readings_of (rows_at spacing) (book_at spacing ns rs) ≡ rs
  readings = readings_back (rows_at spacing) fits ns rs h

  -- the checks ask whether the number is among theirs
  has_number : (number : ℕ) → is_in number ns ≡ true → first_of (shade_checks (rows_at spacing) (book_at spacing ns rs) number) ≡ Ok tt
  unfolding first_of shade_checks
  has_number number e = rw (is, numbers, e)

  no_number : (number : ℕ) → is_in number ns ≡ false → first_of (shade_checks (rows_at spacing) (book_at spacing ns rs) number) ≡ Err NoSuchShade
  unfolding first_of shade_checks
  no_number number e = rw (is, numbers, e)

  asked : (number : ℕ) → first_of (strike_checks spacing number (book_at spacing ns rs)) ≡ first_of (shade_checks (rows_at spacing) (book_at spacing ns rs) number)
  asked number = known_spacing spacing number (book_at spacing ns rs) known refl

  without : (number : ℕ) → book_without (rows_at spacing) number (book_at spacing ns rs) ≡ rest_at spacing number ns rs
  unfolding book_without
  without number = rw (numbers, readings)

  leaves : (number : ℕ) → book_left spacing number (book_at spacing ns rs) ≡ rest_at spacing number ns rs
  leaves number = go (is_in number ns) refl
    where
      go : (t : Bool) → is_in number ns ≡ t → book_left spacing number (book_at spacing ns rs) ≡ rest_at spacing number ns rs
      go true e = accepted_leaves spacing number (book_at spacing ns rs) (asked number ∙ has_number number e) ∙ without number
      go false e =
          refused_leaves spacing number (book_at spacing ns rs) NoSuchShade (asked number ∙ no_number number e)
          ∙ rw (all_remain 1 number ns ns (omega arith) e, all_remain (rows_at spacing) number ns rs h.long e)

-- two strikes, the second in what the first left
module _ (spacing : ℕ) (known : unknown_spacing spacing ≡ false) (ns rs : List ℕ) (h : Shades (rows_at spacing) ns rs) where
  leaves_both : (j k : ℕ) → book_left spacing k (book_left spacing j (book_at spacing ns rs))
      ≡ rest_at spacing k (remaining 1 j ns ns) (remaining (rows_at spacing) j ns rs)
  leaves_both j k = ap (book_left spacing k) (leaves spacing known ns rs h j) ∙ leaves spacing known _ _ (shades_left j (rows_at spacing) ns rs h) k

  same_left : (j k : ℕ) → book_left spacing k (book_left spacing j (book_at spacing ns rs)) ≡ book_left spacing j (book_left spacing k (book_at spacing ns rs))
  same_left j k =
      leaves_both j k
      ∙ rw (remain_either 1 j k ns ns (omega arith), remain_either (rows_at spacing) j k ns rs h.long) (sym (leaves_both k j))

  -- a shade that is in the book is still in it when another is struck
  second_clear : (j k : ℕ) → (k ≡ j → ⊥) → is_in k ns ≡ true → first_of (strike_checks spacing k (book_left spacing j (book_at spacing ns rs))) ≡ Ok tt
  second_clear j k other e =
      ap (λ (s : List ℕ). first_of (strike_checks spacing k s)) (leaves spacing known ns rs h j)
      ∙ asked spacing known _ _ (shades_left j (rows_at spacing) ns rs h) k
      ∙ has_number spacing known _ _ (shades_left j (rows_at spacing) ns rs h) k (others_stay k j other ns ∙ e)

  both_struck : (j k : ℕ) → (j ≡ k → ⊥) → is_in j ns ≡ true → is_in k ns ≡ true
      → length (book_left spacing j (book_at spacing ns rs)) ≡ length (book_left spacing k (book_at spacing ns rs)) → BothStruck spacing j k (book_at spacing ns rs)
  both_struck j k other hj hk even =
      let rows : ℕ = rows_at spacing in
      let t : List ℕ = book_left spacing j (book_at spacing ns rs) in
      let u : List ℕ = book_left spacing k (book_at spacing ns rs) in
      let p = second_clear j k (λ e. other (sym e)) hk in
      let q = second_clear k j other hj in
      let same : book_without rows k t ≡ book_without rows j u = sym (accepted_leaves spacing k t p) ∙ same_left j k ∙ accepted_leaves spacing j u q in
      let after : closed_up (book_without rows k t) (length t) ≡ closed_up (book_without rows j u) (length u) = rw (same, even) in
      let a = strike_accepted spacing k t p {rows = rows} refl {n = length (book_without rows k t)} refl {after = closed_up (book_without rows k t) (length t)} refl in
      let b = strike_accepted spacing j u q {rows = rows} refl {n = length (book_without rows k t)} (ap length same) {after = closed_up (book_without rows k t) (length t)} after in
      record { n = length (book_without rows k t); k_after_j = sym a.0; j_after_k = sym b.0; same_buffer = sym a.1 ∙ b.1 }

-- one strike of a shade that the book has
module _ (spacing : ℕ) (known : unknown_spacing spacing ≡ false) (ns rs : List ℕ) (h : Shades (rows_at spacing) ns rs) (number : ℕ) where
  left : Shades (rows_at spacing) (remaining 1 number ns ns) (remaining (rows_at spacing) number ns rs)
  left = shades_left number (rows_at spacing) ns rs h

  same_checks : (other : ℕ) → (other ≡ number → ⊥)
      → shade_checks (rows_at spacing) (rest_at spacing number ns rs) other ≡ shade_checks (rows_at spacing) (book_at spacing ns rs) other
  unfolding shade_checks
  same_checks other d =
      rw (is spacing known ns rs h, is spacing known _ _ left, numbers spacing known ns rs h, numbers spacing known _ _ left, others_stay other number d ns)

  same_shade : (other : ℕ) → (other ≡ number → ⊥)
      → shade_of (rows_at spacing) (rest_at spacing number ns rs) other ≡ shade_of (rows_at spacing) (book_at spacing ns rs) other
  unfolding shade_of
  same_shade other d =
      rw (numbers spacing known ns rs h, numbers spacing known _ _ left, readings spacing known ns rs h, readings spacing known _ _ left)
      (same_spectrum other number d (rows_at spacing) ns rs h.long)

  missing : first_of (shade_checks (rows_at spacing) (rest_at spacing number ns rs) number) ≡ Err NoSuchShade
  missing = no_number spacing known _ _ left number (gone number ns)

  taken_out : length (book_at spacing ns rs) ≡ length (rest_at spacing number ns rs) + (entry_length + body_length (rows_at spacing))
      → TakenOut spacing number (book_at spacing ns rs) (rest_at spacing number ns rs)
  unfolding found places_after_read read_checks
  taken_out shorter =
      record {
        book = is spacing known _ _ left;
        shorter = shorter;
        gone = refuses _ refusal (accepted 0) NoSuchShade (right_places spacing (rest_at spacing number ns rs) number (rows_at spacing) known {rows = rows_at spacing} refl refl ∙ missing);
        not_again = sym (strike_refused spacing number (rest_at spacing number ns rs) NoSuchShade (asked spacing known _ _ left number ∙ missing)).0;
        answers = λ other places d. rw (same_checks other d);
        reads = λ other places d. rw (same_checks other d, same_shade other d);
      }

-- what an accepted strike went by
module _ (spacing number : ℕ) (s : List ℕ) (e : first_of (strike_checks spacing number s) ≡ Ok tt) where
  went_by : (unknown_spacing spacing ≡ false) × (is_book (rows_at spacing) s ≡ true) × (is_in number (numbers_of s) ≡ true)
  unfolding strike_checks shade_checks
  went_by = (clear_at _ e 0, not-false _ (clear_at _ e 1), not-false _ (clear_at _ e 2))

-- the claims
module _ (spacing : ℕ) where
  accepted_clear : (s : List ℕ) (number n : ℕ) → struck spacing number s ≡ accepted n → first_of (strike_checks spacing number s) ≡ Ok tt
  unfolding struck
  accepted_clear s number n e = (numbered_accepted _ _ n e).0

  wide : body_length (rows_at spacing) < 65536
  wide = omega (arith, rows_few spacing)

  -- the length of what is left of a book, whichever of its shades is struck
  left_long : (s : List ℕ) (number : ℕ) → AllBelow 256 s → first_of (strike_checks spacing number s) ≡ Ok tt
      → length s ≡ length (book_left spacing number s) + (entry_length + body_length (rows_at spacing))
  left_long s number b e =
      let w = went_by spacing number s e in
      rw (accepted_leaves spacing number s e) (shorter_by (rows_at spacing) wide s b w.1 number w.2)

  pub strike_takes_out : StrikeTakesOut spacing
  strike_takes_out s number n b e =
      let clear = accepted_clear s number n e in
      let w = went_by spacing number s clear in
      let h = book_shades (rows_at spacing) s b w.1 in
      let ns : List ℕ = numbers_of s in
      let rs : List ℕ = readings_of (rows_at spacing) s in
      let whole : s ≡ book_at spacing ns rs = book_of_shades (rows_at spacing) s b w.1 in
      let rest : book_left spacing number s ≡ rest_at spacing number ns rs = ap (book_left spacing number) whole ∙ leaves spacing w.0 ns rs h number in
      let long : length (book_at spacing ns rs) ≡ length (rest_at spacing number ns rs) + (entry_length + body_length (rows_at spacing)) =
      omega (arith, left_long s number b clear, ap length rest, ap length whole) in
      subst (λ (x : List ℕ). TakenOut spacing number x (book_left spacing number s)) (sym whole)
      (subst (λ (x : List ℕ). TakenOut spacing number (book_at spacing ns rs) x) (sym rest) (taken_out spacing w.0 ns rs h number long))

  same_book : (s : List ℕ) (j k : ℕ) → AllBelow 256 s → book_left spacing k (book_left spacing j s) ≡ book_left spacing j (book_left spacing k s)
  same_book s j k b = go (unknown_spacing spacing) (is_book (rows_at spacing) s) refl refl
    where
      none : ((i : ℕ) → book_left spacing i s ≡ s) → book_left spacing k (book_left spacing j s) ≡ book_left spacing j (book_left spacing k s)
      none kept = rw (kept j, kept k, kept j)

      go : (t u : Bool) → unknown_spacing spacing ≡ t → is_book (rows_at spacing) s ≡ u
          → book_left spacing k (book_left spacing j s) ≡ book_left spacing j (book_left spacing k s)
      go true u p q = none (λ i. refused_leaves spacing i s UnknownSpacing (unknown_spacing_lem spacing i s p))
      go false false p q = none (λ i. refused_leaves spacing i s NotABook (known_spacing spacing i s p refl ∙ no_book (rows_at spacing) s i q))
      go false true p q =
          let whole = book_of_shades (rows_at spacing) s b q in
          ap (λ (x : List ℕ). book_left spacing k (book_left spacing j x)) whole
          ∙ same_left spacing p (numbers_of s) (readings_of (rows_at spacing) s) (book_shades (rows_at spacing) s b q) j k
          ∙ sym (ap (λ (x : List ℕ). book_left spacing j (book_left spacing k x)) whole)

  pub either_order : EitherOrder spacing
  either_order =
      record {
        same_book = same_book;
        both =
            λ s j k m n b other ej ek.
            let cj = accepted_clear s j m ej in
            let ck = accepted_clear s k n ek in
            let wj = went_by spacing j s cj in
            let whole = book_of_shades (rows_at spacing) s b wj.1 in
            let even : length (book_left spacing j s) ≡ length (book_left spacing k s) = omega (arith, left_long s j b cj, left_long s k b ck) in
            subst (λ (x : List ℕ). BothStruck spacing j k x) (sym whole)
            (both_struck spacing wj.0 (numbers_of s) (readings_of (rows_at spacing) s) (book_shades (rows_at spacing) s b wj.1) j k other wj.2
            (went_by spacing k s ck).2 (subst (λ (x : List ℕ). length (book_left spacing j x) ≡ length (book_left spacing k x)) whole even));
      }
