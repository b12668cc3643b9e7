-- `book_writer::parts::put_book` meets its contract: the stores of the parts join to the book's. Assumes nothing.
use Rattle.std.proofs.Common.{ℕ, List, length, ◌∙◌, ap}
use Rattle.std.proofs.lemmas.List.Edits.{sets}
use Rattle.endian.specs.Bytes.{le16, bytes_of}
use Rattle.book.specs.Book.{head_length, count_place, bodies_at, contents_of}
use Rattle.book_writer.proofs.Stored.{book_stores}
use Rattle.book_writer.proofs.parts.put_book.Goals as goal

pub returns : goal.returns
returns c =
    let a = c.args in
    let ns = a.numbers.now in
    c.put_bodies.ensures
    ∙ ap (λ (d : List ℕ). sets d (bodies_at (length ns)) (bytes_of a.spectra.now))
    (c.put_contents.ensures
    ∙ ap (λ (d : List ℕ). sets d head_length (contents_of a.rows (bodies_at (length ns)) ns))
    (c.write16.ensures ∙ ap (λ (d : List ℕ). sets d count_place (le16 (length ns))) c.put_magic.ensures))
    ∙ book_stores a.rows a.buffer.now ns a.spectra.now
