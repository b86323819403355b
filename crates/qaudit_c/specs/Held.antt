-- What a handle holds and owns.
use base.Fml.{Fml, ftrue}
use base.Stored.{Coded}
use denote.RawPtr.{Ptr}
use Rattle.std.specs.Coded.{coded_option}
use Rattle.std.specs.Prelude.{Option, Some, None}
use Rattle.std.specs.Box.Ownership.{box_owns}
use Rattle.std.specs.Global.{Global}
use Rattle.std_heap.specs.contracts.GlobalAllocator.TheImpl.{ghosts}
use Rattle.qa_embed.specs.Session.{Run}
use Rattle.qa_embed.specs.contracts.Session.{the_row}

-- the session in the block at the pointer, where it holds one, with the right to free the block
abbrev pub held_owns : Global → Ptr → Option the_row.Denot → Fml
held_owns alloc p None = ftrue
held_owns alloc p (Some run) = box_owns (ghosts.dealloc_token alloc) the_row p run

abbrev pub held_coded : Coded (Option the_row.Denot)
held_coded = coded_option the_row.coded

-- a handle that holds this holds a session
abbrev pub IsOpen : Option Run → Type 0
IsOpen None = ⊥
IsOpen (Some run) = Unit {0}
