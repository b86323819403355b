use Rattle.std.proofs.Common.{◌≡◌, ◌∙◌, ◌++◌, ap, ap₂, subst, take}
use Rattle.std.proofs.lemmas.List.{take-append-drop}
use Rattle.std.proofs.lemmas.Result.{on_ok_weaker}
use Rattle.qa_convert.proofs.Delayed.{only_added}
use Rattle.qa_convert.proofs.Keyed.{only_tell, tell_between}
use Rattle.qa_convert.proofs.Losses.{received_only}
use Rattle.qa_convert.proofs.Stated.{rules_both}
use Rattle.qa_base.specs.declared.space.Space.TheVariants.{Handshake}
use Rattle.qa_base.specs.values.Events.{is_space}
use Rattle.qa_convert.specs.AckDelays.{TellsAcks, decoding_of}
use Rattle.qa_convert.specs.KeyLines.{OnlyKeys, known_by, with_come}
use Rattle.qa_convert.specs.Rules.{Rules, rules_of, rules_stated, rules_with}
use Rattle.qa_convert.specs.States.{stated}
use Rattle.qa_convert.specs.Telling.{KnownKeys, Told, told_in}
use Rattle.qa_convert.specs.declared.decoding.Decoding.{Decoding}
use Rattle.qa_convert.proofs.conversion.Conversion.on_received.Goals as goal

pub returns-clause-delays : goal.returns-clause-delays
returns-clause-delays c =
    let n = c.shown_part.result in
    let space = c.args.packet.now.packet.space in
    let taken : rules_of c.take_keys.new.self ≡ rules_with space (rules_of c.args.self.now) = c.in_ok-take_keys.ensures.rules ∙ ap (rules_with space) c.in_ok-lost.ensures.rules in
    let d = stated (take n c.args.beside.now) (decoding_of c.args.self.now) in
    let read : c.decoding-decoding.result ≡ d =
    c.decoding-decoding.ensures ∙ ap (λ (r : Rules). r.decoding) (c.take_beside-is_reported.ensures.rules ∙ ap (rules_stated c.split_at.result.0.now) taken)
    ∙ ap (λ es. stated es (decoding_of c.args.self.now)) c.split_at.ensures.front in
    let begun : (told_in c.take_beside-is_reported.new.self.writing).acks ≡ (told_in c.args.self.now.writing).acks =
    ap (λ w. (told_in w).acks) c.take_beside-is_reported.ensures.writing ∙ ap (λ (t : Told). t.acks) c.in_ok-take_keys.ensures.keys.told ∙ c.in_ok-lost.ensures.acks in
    on_ok_weaker c.after_acks.result
    (λ same. (
      n,
      only_added d c.write_acks.new.self.keys c.args.packet.now.packet (told_in c.args.self.now.writing) (told_in c.take_beside-is_reported.new.self.writing)
          (told_in c.write_acks.new.self.writing) (told_in c.after_acks.new.self.writing) begun
          (subst (λ (x : Decoding). TellsAcks x c.write_acks.new.self.keys c.args.packet.now.packet (told_in c.take_beside-is_reported.new.self.writing) (told_in c.write_acks.new.self.writing))
          read c.in_ok-write_acks.ensures.acks)
          same,
    ))
    c.after_acks.ensures.acks

pub returns-clause-lost : goal.returns-clause-lost
returns-clause-lost c =
    let shown = c.split_at.result.0.now in
    let later = c.split_at.result.1.now in
    let are : shown ++ later ≡ c.args.beside.now = ap₂ (λ xs ys. xs ++ ys) c.split_at.ensures.front c.split_at.ensures.back ∙ take-append-drop c.shown_part.result c.args.beside.now in
    let same : (told_in c.take_beside-is_reported.new.self.writing).lost ≡ (told_in c.lost_before.new.self.writing).lost =
    ap (λ w. (told_in w).lost) c.take_beside-is_reported.ensures.writing ∙ ap (λ (t : Told). t.lost) c.in_ok-take_keys.ensures.keys.told in
    on_ok_weaker c.after_acks.result
    (λ third.
    received_only c.args.before.items c.in_ok-lost.lost.items c.in_ok-lost-2.lost.items shown later c.args.beside.now
    (told_in c.args.self.now.writing) (told_in c.lost_before.new.self.writing) (told_in c.take_beside-is_reported.new.self.writing)
    (told_in c.write_acks.new.self.writing) (told_in c.after_acks.new.self.writing)
    are c.in_ok-lost-2.ensures.some c.in_ok-lost-2.ensures.none c.in_ok-lost.ensures.lost same c.in_ok-write_acks.ensures.lost third)
    c.after_acks.ensures.lost

pub returns-clause-keys : goal.returns-clause-keys
returns-clause-keys c =
    let space = c.args.packet.now.packet.space in
    let known = with_come (is_space Handshake space) (known_by c.args.self.now.keys) in
    let b = told_in c.lost_before.new.self.writing in
    let mid = told_in c.take_keys.new.self.writing in
    let are : known_by c.take_keys.new.self.keys ≡ known =
    ap (λ (r : Rules). r.keys) (c.in_ok-take_keys.ensures.rules ∙ ap (rules_with space) c.in_ok-lost.ensures.rules) in
    let only : OnlyKeys known b mid = subst (λ (k : KnownKeys). OnlyKeys k b mid) are c.in_ok-take_keys.ensures.keys in
    on_ok_weaker c.after_acks.result
    (λ same.
    tell_between known (told_in c.args.self.now.writing) b mid (told_in c.after_acks.new.self.writing) c.in_ok-lost.ensures.keys (only_tell known b mid only)
    (same ∙ c.in_ok-write_acks.ensures.keys ∙ ap (λ w. (told_in w).keys) c.take_beside-is_reported.ensures.writing))
    c.after_acks.ensures.keys

pub returns-clause-sent : goal.returns-clause-sent
returns-clause-sent c =
    on_ok_weaker c.after_acks.result
    (λ same.
    same ∙ c.in_ok-write_acks.ensures.sent ∙ ap (λ w. (told_in w).sent) c.take_beside-is_reported.ensures.writing
    ∙ ap (λ (t : Told). t.sent) c.in_ok-take_keys.ensures.keys.told ∙ c.in_ok-lost.ensures.sent)
    c.after_acks.ensures.sent

pub returns-clause-timers : goal.returns-clause-timers
returns-clause-timers c =
    on_ok_weaker c.after_acks.result
    (λ same.
    same ∙ c.in_ok-write_acks.ensures.timers ∙ ap (λ w. (told_in w).timers) c.take_beside-is_reported.ensures.writing
    ∙ ap (λ (t : Told). t.timers) c.in_ok-take_keys.ensures.keys.told ∙ c.in_ok-lost.ensures.timers)
    c.after_acks.ensures.timers

pub returns-clause-rules : goal.returns-clause-rules
returns-clause-rules c =
    let space = c.args.packet.now.packet.space in
    let shown = c.split_at.result.0.now in
    let later = c.split_at.result.1.now in
    let are : shown ++ later ≡ c.args.beside.now = ap₂ (λ xs ys. xs ++ ys) c.split_at.ensures.front c.split_at.ensures.back ∙ take-append-drop c.shown_part.result c.args.beside.now in
    let begun = rules_with space (rules_of c.args.self.now) in
    let taken : rules_of c.take_keys.new.self ≡ begun = c.in_ok-take_keys.ensures.rules ∙ ap (rules_with space) c.in_ok-lost.ensures.rules in
    let part : rules_of c.write_acks.new.self ≡ rules_stated shown begun =
    c.in_ok-write_acks.ensures.rules ∙ c.take_beside-is_reported.ensures.rules ∙ ap (rules_stated shown) taken in
    on_ok_weaker c.after_acks.result (λ all. all ∙ ap (rules_stated later) part ∙ rules_both shown later begun ∙ ap (λ es. rules_stated es begun) are)
    c.after_acks.ensures.rules
