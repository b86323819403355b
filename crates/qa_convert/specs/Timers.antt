-- What lines tell of timers that expired. A line that says that this is a guess, since the log has
-- no record of it, tells nothing.
use Rattle.std.specs.Prelude.{◌≡◌, ◌⊎◌, ◌++◌, Bool, true, List, [], ◌∷◌, IfSome, flat_map}
use Rattle.qa_base.specs.declared.space.Space.{Space}
use Rattle.qa_base.specs.declared.space.TimerKind.{TimerKind}
use Rattle.qa_convert.specs.Marks.{Marks}
use Rattle.qa_convert.specs.Telling.{TimerLine, Told, with_timer}
use Rattle.qa_convert.specs.declared.event.Expiry.{Expiry}
use Rattle.qa_convert.specs.declared.groups.About.{About}
use Rattle.qa_convert.specs.declared.groups.About.TheVariants as about
use Rattle.qa_convert.specs.declared.groups.Group.{Group}

-- a line says which timer it was and its space, if the log says it
pub record IsLineOfTimer (e : Expiry) (l : TimerLine) : Type 0 where
  pub kind : IfSome e.kind (λ kind. l.kind ≡ kind)
  pub space : IfSome e.space (λ space. l.space ≡ space)

-- the lines of timers, in their order: each has one, or none, since it did nothing
abbrev pub AreExpired : List Expiry → List TimerLine → Type 0
AreExpired [] lines = lines ≡ []
AreExpired (e ∷ es) lines =
    AreExpired es lines
    ⊎ ((first : TimerLine) × (more : List TimerLine) × (lines ≡ first ∷ more)
    × IsLineOfTimer e first × AreExpired es more)

-- these timers expired, and the lines of them were written, and of no others
abbrev pub AddsTimers : List Expiry → Told → Told → Type 0
AddsTimers es before after =
    (lines : List TimerLine) × (after.timers ≡ before.timers ++ lines) × AreExpired es lines

-- what a group adds to the lines of timers: only a timer that expired adds one
abbrev pub Expires : About → Told → Told → Type 0
Expires (about.Expired at e) before after = AddsTimers (e ∷ []) before after
Expires _ before after = after.timers ≡ before.timers

-- one timer was written, perhaps as a guess, and nothing else: as a guess if one was made by then
pub record WritesTimer (is_guess : Bool) (kind : TimerKind) (before after : Told) : Type 0 where
  pub marks : Marks
  pub guess : is_guess ≡ true → marks.timer ≡ true
  pub space : Space
  pub told : after ≡ with_timer before marks kind space

-- ---- groups

abbrev pub expired_in : About → List Expiry
expired_in (about.Expired at e) = e ∷ []
expired_in _ = []

abbrev pub expired_of : List Group → List Expiry
expired_of gs = flat_map (λ g. expired_in g.about) gs
