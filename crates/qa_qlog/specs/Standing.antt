-- What the texts that were returned are of the bytes of a log.
use Rattle.std.specs.Prelude.{◌≡◌, ◌++◌, ℕ, List, true}
use Rattle.qa_qlog.specs.Texts.{Numbered, Read, Rest, texts_by, left}
use Rattle.qa_qlog.specs.Taking.{MayFollow}

abbrev pub after : List Numbered → Read → Read
after taken read = (taken ++ read.0, read.1)

-- these texts were returned of a log of which these bytes were fed: whatever follows, the texts of
-- the log are these and those that are left
abbrev pub Stands : List Numbered → Rest → List ℕ → Type 0
Stands taken rest log =
    (more : List ℕ) → MayFollow rest more
    → texts_by rest.uncut.mark (log ++ more) ≡ after taken (left rest more)

abbrev pub fed : Rest → List ℕ → Rest
fed rest part = record rest {
  uncut = record rest.uncut { bytes = rest.uncut.bytes ++ part };
}

abbrev pub closed : Rest → Rest
closed rest = record rest { uncut = record rest.uncut { closed = true } }
