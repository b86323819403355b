-- What lines tell of keys: only what the log told by then. A line that says that this is a guess
-- tells nothing.
use Rattle.std.specs.Prelude.{◌≡◌, ◌||◌, ◌++◌, Bool, false, List, [], Option, Some, None}
use Rattle.std.specs.List.{AllByRecursion, fold}
use Rattle.qa_base.specs.declared.space.Space.{Space}
use Rattle.qa_base.specs.declared.space.Space.TheVariants.{Handshake}
use Rattle.qa_base.specs.values.Events.{is_space}
use Rattle.qa_base.specs.values.PerSpace.{with_space}
use Rattle.qa_convert.specs.Telling.{AreRetired, HaveCome, KnownKeys, Retired, Told, with_came}
use Rattle.qa_convert.specs.Telling.{with_gone}
use Rattle.qa_convert.specs.declared.event.Said.{Said}
use Rattle.qa_convert.specs.declared.event.Said.TheVariants as said
use Rattle.qa_convert.specs.declared.groups.About.{About}
use Rattle.qa_convert.specs.declared.groups.About.TheVariants as about
use Rattle.qa_convert.specs.declared.groups.Group.{Group}
use Rattle.qa_convert.specs.declared.handshake.Keys.{Keys}
use Rattle.qa_convert.specs.declared.place.Place.{Place}

-- ---- what the log told

-- nothing
abbrev pub no_keys : KnownKeys
no_keys = record {
  came = false;
  retired = record { initial = None; handshake = None; app = None };
}

abbrev pub known_by : Keys → KnownKeys
known_by keys = record { came = keys.has_keys; retired = keys.retired }

-- the log tells that keys of a space came
abbrev pub come_of : Option Space → Bool
come_of None = false
come_of (Some space) = is_space Handshake space

abbrev pub with_come : Bool → KnownKeys → KnownKeys
with_come came known = record known { came = came || known.came }

-- the log tells, at a place, that the keys of a space are gone
abbrev pub retired_at : Place → Option Space → Retired → Retired
retired_at place None retired = retired
retired_at place (Some space) retired = with_space space retired (Some place)

-- the space whose keys came, or are gone, if an event says so of one
abbrev pub came_by : Said → Option Space
came_by (said.KeysCame space) = space
came_by _ = None

abbrev pub gone_by : Said → Option Space
gone_by (said.KeysGone space) = space
gone_by _ = None

abbrev pub keys_by : Place → Said → KnownKeys → KnownKeys
keys_by place said known = record {
  came = come_of (came_by said) || known.came;
  retired = retired_at place (gone_by said) known.retired;
}

-- what it told once there is a group, too: a packet of the Handshake space that comes shows that
-- its keys came
abbrev pub keys_in : About → KnownKeys → KnownKeys
keys_in (about.Received p ls) known = with_come (is_space Handshake p.packet.space) known
keys_in (about.Other e) known = keys_by e.at.place e.said known
keys_in _ known = known

abbrev pub keys_after : List Group → KnownKeys → KnownKeys
keys_after gs known = fold (λ before g. keys_in g.about before) known gs

-- ---- what lines tell of it

-- lines of keys are told: of keys of which the log told
abbrev pub TellsKeys : KnownKeys → Told → Told → Type 0
TellsKeys known before after =
    (came : List Space) × (gone : List Space)
    × (after.keys.came ≡ before.keys.came ++ came) × HaveCome known came
    × (after.keys.gone ≡ before.keys.gone ++ gone) × AreRetired known.retired gone

-- the same, and nothing else is told
pub record OnlyKeys (known : KnownKeys) (before after : Told) : Type 0 where
  pub came : List Space
  pub have_come : HaveCome known came
  pub gone : List Space
  pub are_retired : AreRetired known.retired gone
  pub told : after ≡ with_gone (with_came before came) gone

-- nothing is told but that keys are gone, of which the log told
pub record Retires (retired : Retired) (before after : Told) : Type 0 where
  pub spaces : List Space
  pub gone : AreRetired retired spaces
  pub told : after ≡ with_gone before spaces

-- nothing is told but that the keys of this space are gone: nothing at all if the log did not tell
-- so
pub record Discards (place : Option Place) (space : Space) (before after : Told) : Type 0 where
  pub spaces : List Space
  pub are : AllByRecursion (λ s. s ≡ space) spaces
  pub untold : place ≡ None → spaces ≡ []
  pub told : after ≡ with_gone before spaces
