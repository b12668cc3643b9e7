-- The loop that writes the entries anew: the entries that are left, with the numbers that stand there, stored from here are those of all.
-- Assumes nothing.
use mathlib.Core.Path.{◌≡◌, sym, ap, ◌∙◌}
use Prim.Native.Nat.{ℕ, suc, ◌+◌, ◌≤◌}
use native.Mathlib.Omega.{arith}
use mathlib.Core.List.{List, ◌++◌}
use lib.ListN.{length, take, drop, length-append, take-append-drop}
use lib.Seq.{sets, sets-eq, length-take-le}
use Rattle.stores.proofs.Runs.{sets_then}
use Rattle.endian.specs.Bytes.{at16, words}
use Rattle.endian.proofs.Words.{words_none, words_first, words_past}
use Rattle.book.specs.Book.{entry_length, body_length, entry_of, contents_of}
use Rattle.book_writer.proofs.Stored.{length-entry_of}

-- words that stand past a run of stores are as they were
words_kept : (d e : List ℕ) (at k step m : ℕ) → length e ≡ k → at + k ≤ length d → words (sets d at e) (at + k) step m ≡ words d (at + k) step m
words_kept d e at k step m f h =
    let r : List ℕ = drop (at + k) d in
    let stored : sets d at e ≡ take at d ++ e ++ r = sets-eq e d at (omega arith) ∙ ap (λ (i : ℕ). take at d ++ e ++ drop (at + i) d) f in
    ap (λ (l : List ℕ). words l (at + k) step m) stored
    ∙ words_past (take at d ++ e) r (at + k) step m (omega (arith, length-append (take at d) e, length-take-le at d (omega arith)))
    ∙ sym (words_past (take (at + k) d) r (at + k) step m (length-take-le (at + k) d h))
    ∙ ap (λ (l : List ℕ). words l (at + k) step m) (take-append-drop (at + k) d)

-- one turn, and the end; x is the number that the code has read, d' what the entry's stores left, next and due the following entry's place and offset
pub entries_turn : (rows : ℕ) (d : List ℕ) (at o m : ℕ) {n : ℕ} → n ≡ suc m → at + entry_length ≤ length d → {x : ℕ} → x ≡ at16 d at
    → {d' : List ℕ} → d' ≡ sets d at (entry_of rows x o) → {next due : ℕ} → next ≡ at + entry_length → due ≡ o + body_length rows
    → sets d' next (contents_of rows due (words d' next entry_length m)) ≡ sets d at (contents_of rows o (words d at entry_length n))
unfolding contents_of
entries_turn rows d at o m more h p {d'} s q r =
    let b = body_length rows in
    let e : List ℕ = entry_of rows (at16 d at) o in
    let stored : d' ≡ sets d at e = s ∙ ap (λ (x : ℕ). sets d at (entry_of rows x o)) p in
    let ns : List ℕ = words d (at + entry_length) entry_length m in
    let size = length-entry_of rows (at16 d at) o in
    rw (q, r)
    (ap (λ (l : List ℕ). sets l (at + entry_length) (contents_of rows (o + b) (words l (at + entry_length) entry_length m))) stored
    ∙ ap (λ (l : List ℕ). sets (sets d at e) (at + entry_length) (contents_of rows (o + body_length rows) l)) (words_kept d e at entry_length entry_length m size h)
    ∙ sets_then d at entry_length e (contents_of rows (o + body_length rows) ns) size
    ∙ ap (λ (l : List ℕ). sets d at (contents_of rows o l)) (sym (words_first d at entry_length m more)))

pub entries_end : (rows : ℕ) (d : List ℕ) (at o n : ℕ) → n ≤ 0 → sets d at (contents_of rows o (words d at entry_length n)) ≡ d
unfolding contents_of
entries_end rows d at o n h = rw (words_none d at entry_length n h)
