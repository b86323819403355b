-- What is owed and what is free as one filter, and what a Lost line takes of them.
use Rattle.std.proofs.Common.{◌≡◌, ◌∙◌, List, [], ◌∷◌, Bool, true, false, ◌&&◌, ◌||◌, not, ℕ, Option, Some, None, refl, sym, ap, filter}
use Rattle.std.specs.List.{list_any}
use Rattle.std.specs.Prelude.{nat_lt, if◌then◌else◌}
use Rattle.qa_base.specs.declared.event.Event.{Event}
use Rattle.qa_base.specs.declared.event.Event.TheVariants.{Lost}
use Rattle.qa_base.specs.declared.space.Space.{Space}
use Rattle.qa_base.specs.machine.Detection.{all_at, declared_by, detection_by, free_by, is_at, is_completed_by, is_found, is_free_by, is_left, is_old, is_owed_by, is_unsettled, may_be_spared, owed_by}
use Rattle.qa_base.specs.machine.Estimates.{sampled}
use Rattle.qa_base.specs.machine.Loss.{declared, free, is_free, is_nameable, is_owed, nameable, owed}
use Rattle.qa_base.specs.machine.Packets.{Packet, packets, is_of, largest_acknowledged}
use Rattle.qa_base.specs.machine.Rtt.{Estimate}
use Rattle.qa_base.specs.values.Events.{declares_lost}
use Rattle.qa_base.specs.values.Settings.{Settings, is_may}

-- ---- one filter

one_more : (test of_space : Packet → Bool) (p : Packet) (ps rest : List Packet) (a b : Bool) → test p ≡ b
    → filter test ps ≡ rest
    → filter test (if a then p ∷ ps else ps) ≡ (if a && b then p ∷ rest else rest)
one_more test of_space p ps rest true true is same = rw (is, same) refl
one_more test of_space p ps rest true false is same = rw (is, same) refl
one_more test of_space p ps rest false b is same = same

pub both : (test of_space : Packet → Bool) (ps : List Packet) → filter test (filter of_space ps) ≡ filter (λ p. of_space p && test p) ps
both test of_space [] = refl
both test of_space (p ∷ ps) = one_more test of_space p (filter of_space ps) (filter (λ p. of_space p && test p) ps) (of_space p) (test p) refl (both test of_space ps)

none : (ps : List Packet) → [] ≡ filter (λ p. false) ps
none [] = refl
none (p ∷ ps) = none ps

found_is : (c : Settings) (r : Estimate) (h : List Event) (d : Option (Space × ℕ)) → all_at (is_found c r h) h d ≡ filter (λ p. is_at (is_found c r h) p d) (packets h)
found_is c r h None = none (packets h)
found_is c r h (Some d) = both (is_found c r h d.1 d.0) (is_of d.0) (packets h)

left_is : (c : Settings) (r : Estimate) (h : List Event) (d : Option (Space × ℕ)) → all_at (is_left c r h) h d ≡ filter (λ p. is_at (is_left c r h) p d) (packets h)
left_is c r h None = none (packets h)
left_is c r h (Some d) = both (is_left c r h d.1 d.0) (is_of d.0) (packets h)

-- by an estimate
pub owed_by_is : (c : Settings) (r : Estimate) (h : List Event) → owed_by c r h ≡ filter (is_owed_by c r h) (packets h)
owed_by_is c r h = found_is c r h (detection_by c r h)

pub free_by_is : (c : Settings) (r : Estimate) (h : List Event) → free_by c r h ≡ filter (is_free_by c r h) (packets h)
free_by_is c r h = left_is c r h (detection_by c r h)

-- and of a history
pub owed_is : (c : Settings) (h : List Event) → owed c h ≡ filter (is_owed c h) (packets h)
owed_is c h = owed_by_is c (sampled c h) h

pub free_is : (c : Settings) (h : List Event) → free c h ≡ filter (is_free c h) (packets h)
free_is c h = free_by_is c (sampled c h) h

-- ---- what a Lost line takes

-- a packet that is owed after the history, or that is free and that the event names
abbrev pub is_taken : Settings → List Event → Event → Packet → Bool
is_taken c h e p = is_owed c h p || (is_free c h p && declares_lost p.space p.number e)

-- the event names a packet that is free after the history
abbrev pub is_completed : Settings → List Event → Event → Bool
is_completed c h e = list_any (λ p. is_free c h p && declares_lost p.space p.number e) (packets h)

pub same_filter : (f g : Packet → Bool) (ps : List Packet) → ((p : Packet) → f p ≡ g p) → filter f ps ≡ filter g ps
same_filter f g [] same = refl
same_filter f g (p ∷ ps) same = rw (same p, same_filter f g ps same) refl

any_if : (test kept : Packet → Bool) (p : Packet) (ps : List Packet) (b : Bool) → kept p ≡ b → list_any test (filter kept ps) ≡ list_any (λ p. kept p && test p) ps
    → list_any test (if b then p ∷ filter kept ps else filter kept ps) ≡ ((b && test p) || list_any (λ p. kept p && test p) ps)
any_if test kept p ps true is rest = ap (λ (b : Bool). test p || b) rest
any_if test kept p ps false is rest = rest

pub any_of_part : (test kept : Packet → Bool) (ps : List Packet) → list_any test (filter kept ps) ≡ list_any (λ p. kept p && test p) ps
any_of_part test kept [] = refl
any_of_part test kept (p ∷ ps) = any_if test kept p ps (kept p) refl (any_of_part test kept ps)

pub same_any : (f g : Packet → Bool) (ps : List Packet) → ((p : Packet) → f p ≡ g p) → list_any f ps ≡ list_any g ps
same_any f g [] same = refl
same_any f g (p ∷ ps) same = rw (same p, same_any f g ps same) refl

completed_by_is : (c : Settings) (h : List Event) (e : Event) → is_completed_by c (sampled c h) h e ≡ is_completed c h e
completed_by_is c h e =
    let named : Packet → Bool = λ p. declares_lost p.space p.number e in
    ap (list_any named) (free_is c h) ∙ any_of_part named (is_free c h) (packets h)

-- a Lost line takes what is owed and what it names of the free, where it names some of them, and else nothing
pub declared_is : (c : Settings) (time : ℕ) (space : Space) (ranges : List (ℕ × ℕ)) (h : List Event)
    → (let e = Lost time space ranges in declared c (e ∷ h) ≡ (if is_completed c h e then filter (is_taken c h e) (packets h) else []))
declared_is c time space ranges h =
    let e = Lost time space ranges in
    ap (λ (b : Bool). if b then filter (is_taken c h e) (packets h) else []) (completed_by_is c h e)

-- ---- where losses by number must be declared

or_none : (a : Bool) → (a || false) ≡ a
or_none true = refl
or_none false = refl

none_of_both : (a b : Bool) → (a && false && b) ≡ false
none_of_both true b = refl
none_of_both false b = refl

none_of_three : (a b c : Bool) → (a && (b && c && false)) ≡ false
none_of_three true true true = refl
none_of_three true true false = refl
none_of_three true false c = refl
none_of_three false b c = refl

never_spared : (c : Settings) (r : Estimate) (h : List Event) (now : ℕ) (largest : Option ℕ) (p : Packet) → is_may c.options.loss_by_number ≡ false → may_be_spared c r h now largest p ≡ false
never_spared c r h now None p must = refl
never_spared c r h now (Some largest) p must = rw must (none_of_both (nat_lt p.number largest) (not (is_old c r now p)))

never_left : (c : Settings) (r : Estimate) (h : List Event) (p : Packet) (d : Option (Space × ℕ)) → is_may c.options.loss_by_number ≡ false → is_at (is_left c r h) p d ≡ false
never_left c r h p None must = refl
never_left c r h p (Some d) must =
    ap (λ (b : Bool). is_of d.0 p && (p.in_flight && is_unsettled h p && b)) (never_spared c r h d.1 (largest_acknowledged h d.0) p must)
    ∙ none_of_three (is_of d.0 p) p.in_flight (is_unsettled h p)

-- nothing is free, by whichever estimate
pub none_free_by : (c : Settings) (r : Estimate) (h : List Event) (p : Packet) → is_may c.options.loss_by_number ≡ false → is_free_by c r h p ≡ false
none_free_by c r h p must = never_left c r h p (detection_by c r h) must

pub must_free_by : (c : Settings) (r : Estimate) (h : List Event) → is_may c.options.loss_by_number ≡ false → free_by c r h ≡ []
must_free_by c r h must =
    free_by_is c r h ∙ (same_filter (is_free_by c r h) (λ p. false) (packets h) (λ p. none_free_by c r h p must) ∙ sym (none (packets h)))

-- a Lost line may name what is owed
pub must_nameable : (c : Settings) (h : List Event) → is_may c.options.loss_by_number ≡ false → nameable c h ≡ owed c h
must_nameable c h must =
    same_filter (is_nameable c h) (is_owed c h) (packets h)
    (λ p. ap (λ (b : Bool). is_owed c h p || b) (none_free_by c (sampled c h) h p must) ∙ or_none (is_owed c h p))
    ∙ sym (owed_is c h)

-- and what is lost by an event is what it finds lost
pub must_declared_by : (c : Settings) (r : Estimate) (e : Event) (h : List Event) → is_may c.options.loss_by_number ≡ false → declared_by c r (e ∷ h) ≡ owed_by c r (e ∷ h)
must_declared_by c r (Lost time space ranges) h must = rw (must_free_by c r h must) refl
must_declared_by c r _ h must = refl
