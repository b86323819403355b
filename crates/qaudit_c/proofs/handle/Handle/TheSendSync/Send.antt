use base.Shift.{Keyless}
use mir.Raw.{raw}
use denote.Memory.{lone}
use denote.RawPtr.{Ptr}
use denote.Struct.Struct.{exits_of}
use denote.Struct.Owning.{shape, fields, to}
use denote.Param.Send.{IsSend, AllSend, owning_send, struct_send, sendable}
use Rattle.std.proofs.Crossing as heap
use Rattle.std.specs.Global.{Global}
use Rattle.std.specs.Prelude.{Option, Some, None}
use Rattle.std_alloc.proofs.SendSync.{quiet, lies}
use Rattle.std_heap.proofs.Global.TheSendSync as handle
use Rattle.qa_embed.specs.contracts.Session as Session
use Rattle.qa_embed.proofs.Session.TheSendSync.{the_send as session}
use Rattle.qaudit_c.specs.Held.{held_owns}
use Rattle.qaudit_c.specs.contracts.handle.Handle.{the_row, the_type}

keyless : (a : Global) (p : Ptr) (held : Option (Session.the_row).Denot) → Keyless (held_owns a p held)
keyless a p None = tt
keyless a p (Some x) = (lies Session.the_row session p x, heap.frees.frees a (raw (lone (Session.the_row).mir)) p)

pub send : IsSend the_row
send =
    let all : AllSend (fields the_type) = (search sendable, (handle.the_field_send, tt)) in
    owning_send the_type all (λ d. keyless d.alloc d.at d.held)
    (λ k. quiet (to the_type) (exits_of k (fields the_type)) ((struct_send (shape the_type) all).leaving k))
