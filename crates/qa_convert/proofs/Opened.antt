-- A group that goes on with one more event.
use Rattle.std.proofs.Common.{◌≡◌, ◌∙◌, List, [], ◌∷◌, ◌++◌, Bool, true, false, cond, append_assoc, refl, sym, ap₂}
use Rattle.std.specs.List.{list_all}
use Rattle.std.specs.Prelude.{◌&&◌, ◌||◌}
use Rattle.std.proofs.lemmas.List.Folds.{list_all-append}
use Rattle.qa_convert.specs.Gathering.{BeginsWith, Fits, IsSingle, is_of_lost}
use Rattle.qa_convert.specs.Groups.{events_about, is_beside, is_of_sent}
use Rattle.qa_convert.specs.Orders.{is_lost, is_sent}
use Rattle.qa_convert.specs.declared.event.LoggedEvent.{LoggedEvent}
use Rattle.qa_convert.specs.declared.groups.About.{About}
use Rattle.qa_convert.specs.declared.groups.About.TheVariants as about
use Rattle.qa_convert.specs.declared.groups.Takes.{Takes}
use Rattle.qa_convert.specs.declared.groups.Takes.TheVariants as takes

-- ---- an event beside a group

pub beside_more : (es : List LoggedEvent) (e : LoggedEvent) → list_all (λ (x : LoggedEvent). is_beside x.said) es ≡ true → is_beside e.said ≡ true
    → list_all (λ (x : LoggedEvent). is_beside x.said) (es ++ e ∷ []) ≡ true
beside_more es e all one =
    list_all-append (λ (x : LoggedEvent). is_beside x.said) es (e ∷ []) ∙ ap₂ (λ a b. a && (b && true)) all one

right_or : (a b : Bool) → b ≡ true → (a || b) ≡ true
right_or true b is = refl
right_or false b is = is

single_more : (first losses : Bool) (about : About) (beside : List LoggedEvent) (taking : Takes) (e : LoggedEvent) → Fits first losses about beside taking
    → (taking ≡ takes.Nothing → ⊥) → IsSingle first about (beside ++ e ∷ [])
single_more false losses about beside taking e fits takes_some = tt
single_more true losses (about.Sent ps) beside taking e fits takes_some = absurd (takes_some (fits.nothing refl))
single_more true losses (about.Received p ls) beside taking e fits takes_some = tt
single_more true losses (about.Lost ls) beside taking e fits takes_some = tt
single_more true losses (about.Expired at timer) beside taking e fits takes_some = tt
single_more true losses (about.Other f) beside taking e fits takes_some = tt

pub fits_more : (first losses : Bool) (about : About) (beside : List LoggedEvent) (taking : Takes) (e : LoggedEvent) → Fits first losses about beside taking
    → (taking ≡ takes.Nothing → ⊥) → Fits first losses about (beside ++ e ∷ []) taking
fits_more first losses about beside taking e fits takes_some = record {
  single = single_more first losses about beside taking e fits takes_some;
  nothing = fits.nothing;
  none = λ is. absurd (takes_some (fits.nothing (right_or (first && is_of_sent about) (losses && is_of_lost about) is)));
}

told_by_test : (b : Bool) (ps es : List LoggedEvent) (e : LoggedEvent) → (b ≡ true → ⊥) → cond b ((es ++ e ∷ []) ++ ps) (ps ++ (es ++ e ∷ [])) ≡ cond b (es ++ ps) (ps ++ es) ++ e ∷ []
told_by_test true ps es e not = absurd (not refl)
told_by_test false ps es e not = sym (append_assoc ps es (e ∷ []))

left_or : (a b : Bool) → a ≡ true → (a || b) ≡ true
left_or true b is = refl
left_or false b is = cc

pub told_more : (first losses : Bool) (about : About) (beside : List LoggedEvent) (taking : Takes) (e : LoggedEvent) → Fits first losses about beside taking
    → (taking ≡ takes.Nothing → ⊥)
    → cond (first && is_of_sent about) ((beside ++ e ∷ []) ++ events_about about) (events_about about ++ (beside ++ e ∷ []))
    ≡ cond (first && is_of_sent about) (beside ++ events_about about) (events_about about ++ beside) ++ e ∷ []
told_more first losses about beside taking e fits takes_some =
    told_by_test (first && is_of_sent about) (events_about about) beside e
    (λ is. takes_some (fits.nothing (left_or (first && is_of_sent about) (losses && is_of_lost about) is)))

-- ---- a group begins

nothing_begun : (a b : Bool) (sends loses : Bool) (of_sent of_lost : Bool) (taking : Takes) → of_sent ≡ sends → of_lost ≡ loses
    → (a ≡ true → sends ≡ true → taking ≡ takes.Nothing) → (b ≡ true → loses ≡ true → taking ≡ takes.Nothing)
    → ((a && of_sent) || (b && of_lost)) ≡ true → taking ≡ takes.Nothing
nothing_begun true b sends loses true of_lost taking is_sent is_lost sent lost is = sent refl (sym is_sent)
nothing_begun true true sends loses false of_lost taking is_sent is_lost sent lost is = lost refl (sym is_lost ∙ is)
nothing_begun true false sends loses false of_lost taking is_sent is_lost sent lost is = cc
nothing_begun false true sends loses of_sent of_lost taking is_sent is_lost sent lost is = lost refl (sym is_lost ∙ is)
nothing_begun false false sends loses of_sent of_lost taking is_sent is_lost sent lost is = cc

single_of : (first : Bool) (about : About) → IsSingle true about [] → IsSingle first about []
single_of true about single = single
single_of false about single = tt

pub fits_begun : (first losses : Bool) (about : About) (taking : Takes) (e : LoggedEvent) → BeginsWith e about
    → (first ≡ true → is_sent e.said ≡ true → taking ≡ takes.Nothing) → (losses ≡ true → is_lost e.said ≡ true → taking ≡ takes.Nothing)
    → Fits first losses about [] taking
fits_begun first losses about taking e begins sent lost = record {
  single = single_of first about begins.single;
  nothing = nothing_begun first losses (is_sent e.said) (is_lost e.said) (is_of_sent about) (is_of_lost about) taking begins.sent begins.lost sent lost;
  none = λ is. refl;
}
