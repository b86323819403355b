-- What a cutter holds, and how it gives a piece.
use Rattle.std.specs.Prelude.{◌≡◌, ◌⊎◌, ◌==◌, ◌<◌, ◌≤◌, ◌+◌, ◌++◌, ℕ, Bool, true, false, List, []}
use Rattle.std.specs.Prelude.{◌∷◌, length, take, drop, Option, None}
use Rattle.std.specs.List.{list_any}
use Rattle.qa_cut.specs.declared.cutter.SplitFault.{SplitFault}

abbrev pub is_mark : ℕ → ℕ → Bool
is_mark mark b = b == mark

abbrev pub has_mark : ℕ → List ℕ → Bool
has_mark mark = list_any (is_mark mark)

-- the byte that ends a piece and the most bytes that one has, the bytes that were fed and not
-- returned yet, whether no more come, and the error with which it failed
pub record Uncut : Type 0 where
  pub mark : ℕ
  pub limit : ℕ
  pub bytes : List ℕ
  pub closed : Bool
  pub refused : Option SplitFault

-- what a piece can be: it has no mark, and no more bytes than the limit
abbrev pub IsShortPiece : ℕ → ℕ → List ℕ → Type 0
IsShortPiece mark limit piece = (has_mark mark piece ≡ false) × (length piece ≤ limit)

-- the first piece of the bytes, which a mark ends, and the bytes after it
abbrev pub IsFirstPiece : ℕ → List ℕ → List ℕ → List ℕ → Type 0
IsFirstPiece mark bytes piece rest = bytes ≡ piece ++ mark ∷ rest

-- the piece that the end of the bytes ends, and nothing after it
abbrev pub IsLastPiece : List ℕ → List ℕ → List ℕ → Type 0
IsLastPiece bytes piece rest = (0 < length piece) × (bytes ≡ piece) × (rest ≡ [])

-- the new bytes are the old without their first piece, which a mark or the close ends
pub record TakesPiece (old new : Uncut) (piece : List ℕ) : Type 0 where
  pub is_piece : IsShortPiece old.mark old.limit piece
  pub taken : IsFirstPiece old.mark old.bytes piece new.bytes
      ⊎ ((old.closed ≡ true) × IsLastPiece old.bytes piece new.bytes)
  pub mark : new.mark ≡ old.mark
  pub limit : new.limit ≡ old.limit
  pub closed : new.closed ≡ old.closed
  pub whole : new.refused ≡ None

-- the next piece is the first len bytes, and is returned with as many as are taken
abbrev pub IsPlace : Uncut → ℕ → ℕ → Type 0
IsPlace c len taken =
    (len ≤ length c.bytes) × (taken ≤ length c.bytes)
    × TakesPiece c (record c { bytes = drop taken c.bytes }) (take len c.bytes)

-- the bytes begin with more bytes without a mark than a piece may have
abbrev pub BeginsTooLong : Uncut → Type 0
BeginsTooLong c =
    (front : List ℕ) × (rest : List ℕ) × (has_mark c.mark front ≡ false) × (c.limit < length front)
    × (c.bytes ≡ front ++ rest)

-- no piece is ready
abbrev pub HasNoPiece : Uncut → Type 0
HasNoPiece c = IsShortPiece c.mark c.limit c.bytes × (c.closed ≡ true → c.bytes ≡ [])

-- the first n bytes have no mark
pub record AreSearched (mark : ℕ) (bytes : List ℕ) (n : ℕ) : Type 0 where
  pub within : n ≤ length bytes
  pub none : has_mark mark (take n bytes) ≡ false

-- the first mark of the bytes is at n
pub record IsFirstMark (mark : ℕ) (bytes : List ℕ) (n : ℕ) : Type 0 where
  pub within : n < length bytes
  pub before : has_mark mark (take n bytes) ≡ false
  pub parts : IsFirstPiece mark bytes (take n bytes) (drop (n + 1) bytes)
