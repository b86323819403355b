-- What a splitter holds, and how it gives a line.
use Rattle.std.specs.Prelude.{◌≡◌, ◌⊎◌, ◌<◌, ◌++◌, ℕ, Bool, true, false, List, [], ◌∷◌}
use Rattle.std.specs.Prelude.{length, Option, None}
use Rattle.qa_format.specs.format.Lines.{has_lf, line_limit, IsShortLine}
use Rattle.qa_cut.specs.declared.cutter.SplitFault.{SplitFault}

-- the bytes that were fed and not returned yet, whether no more come, and the error with which it
-- failed
pub record Stream : Type 0 where
  pub bytes : List ℕ
  pub closed : Bool
  pub refused : Option SplitFault

-- the first line of the bytes, which an LF ends, and the bytes behind it
abbrev pub IsFirstLine : List ℕ → List ℕ → List ℕ → Type 0
IsFirstLine bytes line rest = bytes ≡ line ++ 10 ∷ rest

-- the line that the end of the bytes ends, and nothing behind it
abbrev pub IsLastLine : List ℕ → List ℕ → List ℕ → Type 0
IsLastLine bytes line rest = (0 < length line) × (bytes ≡ line) × (rest ≡ [])

-- the new stream is the old without its first line, which an LF or the close ends
pub record TakesLine (old new : Stream) (line : List ℕ) : Type 0 where
  pub is_line : IsShortLine line
  pub taken : IsFirstLine old.bytes line new.bytes
      ⊎ ((old.closed ≡ true) × IsLastLine old.bytes line new.bytes)
  pub closed : new.closed ≡ old.closed
  pub whole : new.refused ≡ None

-- the bytes begin with more bytes without LF than a line may have
abbrev pub BeginsTooLong : List ℕ → Type 0
BeginsTooLong bytes =
    (front : List ℕ) × (rest : List ℕ) × (has_lf front ≡ false) × (line_limit < length front)
    × (bytes ≡ front ++ rest)

-- no line stands ready
abbrev pub HasNoLine : Stream → Type 0
HasNoLine s = IsShortLine s.bytes × (s.closed ≡ true → s.bytes ≡ [])
