-- `book_writer::entry::put_entry` meets its contract: three runs of stores join to the entry's. Assumes nothing.
use Rattle.std.proofs.Common.{ℕ, List, ◌+◌, ◌∙◌, ap}
use Rattle.std.proofs.lemmas.List.Edits.{sets}
use Rattle.endian.specs.Bytes.{le16, le32}
use Rattle.book_writer.proofs.Stored.{entry_stores}
use Rattle.book_writer.proofs.entry.put_entry.Goals as goal

pub returns : goal.returns
returns c =
    let a = c.args in
    c.write32.ensures
    ∙ ap (λ (d : List ℕ). sets d (a.at + 4) (le32 a.offset))
    (c.write16-2.ensures ∙ ap (λ (d : List ℕ). sets d (a.at + 2) (le16 c.body_length.result)) c.write16.ensures)
    ∙ entry_stores a.rows a.buffer.now a.at a.number a.offset c.body_length.ensures
