-- Calls as records of 32-bit words. This is the one place where they are laid out. Assumes nothing.
--
-- A call is ten words. The first says which call it is:
--   1  open tables: the illuminant, x, y and z, each as a part of the slice of tables (words 1 2, 3 4, 5 6, 7 8: where it starts, how long it is),
--      and the spacing (word 9)
--   2  open a built-in light: its number (word 1) and the spacing (word 2)
--   3  standard: its readings, as a part of the slice of spectra (words 1 2)
--   4  tolerance in CIELAB: the amount (word 1)
--   5  tolerance in CIELUV: the amount (word 1)
--   6  trial: its readings, as a part of the slice of spectra (words 1 2), and its inspection table (word 3)
--   7  preview: as a trial
--   8  nearest: the swatch's readings, as a part of the slice of spectra (words 1 2), the book, as a part of the slice of books (words 3 4), and
--      the budget (word 5)
--   any other number: report
-- Words that a call does not name may hold anything. A part that runs past the end of its slice is a table of length 0. A record that ends early
-- counts as one that goes on with zeros.
use Rattle.std.specs.Prelude.{cond, List, [], ◌∷◌, ℕ, zero, suc, ◌+◌, ◌/◌, leb, eqb, length, get_or, take, drop}
use Rattle.cie.specs.declared.Space.TheVariants.{Cielab, Cieluv}
use Rattle.cie.specs.Sums.{Tables, tables_of}
use Rattle.looks.specs.Look.{Look, preview, nearest}
use Rattle.calls.specs.declared.Kind.{Kind}
use Rattle.calls.specs.declared.Kind.TheVariants.{Report, OpenTables, OpenLight, Standard, ToleranceLab, ToleranceLuv, Trial, Preview, Nearest}
use Rattle.session.specs.Call.{Call, open_tables, open_light, set_standard, set_tolerance, trial, report, look}

abbrev pub call_words : ℕ
call_words = 10

-- a part of a slice, or nothing where it runs past the end
unfoldable pub part_of : {A : Type 0} → List A → ℕ → ℕ → List A
part_of slice start count = cond (leb (start + count) (length slice)) (take count (drop start slice)) []

-- a word of a record
abbrev pub word_at : List ℕ → ℕ → ℕ
word_at words i = get_or words i 0

-- the part of a slice that two words of a record name, one after the other
abbrev pub part_at : {A : Type 0} → List A → List ℕ → ℕ → List A
part_at slice words i = part_of slice (word_at words i) (word_at words (i + 1))

-- what the lent slices hold: tables, spectra, and the bytes of shade books
pub record Slices : Type 0 where
  pub tables : List ℕ
  pub spectra : List ℕ
  pub books : List ℕ

abbrev pub slices_of : List ℕ → List ℕ → List ℕ → Slices
slices_of tables spectra books = record { tables = tables; spectra = spectra; books = books }

-- the tables that a record names
abbrev pub tables_at : List ℕ → List ℕ → Tables
tables_at slice words = tables_of (word_at words 9) (part_at slice words 1) (part_at slice words 3) (part_at slice words 5) (part_at slice words 7)

-- the search that a record names
abbrev pub search_at : List ℕ → List ℕ → List ℕ → Look
search_at spectra books words = nearest (word_at words 5) (part_at spectra words 1) (part_at books words 3)

-- which call the first word says
abbrev pub kind_of : ℕ → Kind
kind_of word =
    cond (eqb word 1) OpenTables
    (cond (eqb word 2) OpenLight
    (cond (eqb word 3) Standard
    (cond (eqb word 4) ToleranceLab
    (cond (eqb word 5) ToleranceLuv
    (cond (eqb word 6) Trial
    (cond (eqb word 7) Preview
    (cond (eqb word 8) Nearest
    Report)))))))

-- the word that says a kind; a report's is one of those that it may have
abbrev pub kind_word : Kind → ℕ
kind_word Report = 0
kind_word OpenTables = 1
kind_word OpenLight = 2
kind_word Standard = 3
kind_word ToleranceLab = 4
kind_word ToleranceLuv = 5
kind_word Trial = 6
kind_word Preview = 7
kind_word Nearest = 8

-- the call of a kind, with the other words of its record
abbrev pub call_of_kind : Kind → List ℕ → Slices → Call
call_of_kind OpenTables words slices = open_tables (tables_at slices.tables words)
call_of_kind OpenLight words slices = open_light (word_at words 1) (word_at words 2)
call_of_kind Standard words slices = set_standard (part_at slices.spectra words 1)
call_of_kind ToleranceLab words slices = set_tolerance Cielab (word_at words 1)
call_of_kind ToleranceLuv words slices = set_tolerance Cieluv (word_at words 1)
call_of_kind Trial words slices = trial (word_at words 3) (part_at slices.spectra words 1)
call_of_kind Preview words slices = look (preview (word_at words 3) (part_at slices.spectra words 1))
call_of_kind Nearest words slices = look (search_at slices.spectra slices.books words)
call_of_kind Report words slices = report

-- the call of a record
abbrev pub call_of : List ℕ → Slices → Call
call_of words slices = call_of_kind (kind_of (word_at words 0)) words slices

-- the call whose record begins at a place
abbrev pub call_at : List ℕ → Slices → ℕ → Call
call_at records slices at = call_of (drop at records) slices

-- so many calls, from a place on
unfoldable pub calls_from : ℕ → List ℕ → Slices → ℕ → List Call
calls_from zero records slices at = []
calls_from (suc n) records slices at = call_at records slices at ∷ calls_from n records slices (at + call_words)

-- how many whole records there are
abbrev pub call_count : List ℕ → ℕ
call_count records = length records / call_words
