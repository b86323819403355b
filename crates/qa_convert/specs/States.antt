-- What a log says of the state of congestion control: whether the sender is limited by its program,
-- so that it has not used its window (RFC 9002, section 7.8).
use Rattle.std.specs.Prelude.{Bool, List, [], ◌∷◌}
use Rattle.std.specs.List.{fold}
use Rattle.qa_convert.specs.declared.decoding.Decoding.{Decoding}
use Rattle.qa_convert.specs.declared.event.LoggedEvent.{LoggedEvent}
use Rattle.qa_convert.specs.declared.event.Said.{Said}
use Rattle.qa_convert.specs.declared.event.Said.TheVariants as said
use Rattle.qa_convert.specs.declared.groups.About.{About}
use Rattle.qa_convert.specs.declared.groups.About.TheVariants as about
use Rattle.qa_convert.specs.declared.groups.Group.{Group}

-- behind an event: any but a state leaves it as it was
abbrev pub state_by : Said → Bool → Bool
state_by (said.State is_limited) before = is_limited
state_by _ before = before

-- behind events
abbrev pub state_after : List LoggedEvent → Bool → Bool
state_after es before = fold (λ is e. state_by e.said is) before es

abbrev pub stated : List LoggedEvent → Decoding → Decoding
stated es d = record d { is_limited = state_after es d.is_limited }

-- behind a group: by what is said beside it, or by the event that is of no group
abbrev pub stated_in : About → List LoggedEvent → Decoding → Decoding
stated_in (about.Other e) beside d = stated (e ∷ []) d
stated_in _ beside d = stated beside d

-- behind groups
abbrev pub decoding_after : List Group → Decoding → Decoding
decoding_after gs d = fold (λ before g. stated_in g.about g.beside.items before) d gs
