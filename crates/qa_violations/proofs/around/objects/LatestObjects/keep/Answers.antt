use Rattle.std.proofs.Common.{◌≡◌, ◌∙◌, ◌∷◌, ◌++◌, [], ap, map}
use Rattle.std.proofs.lemmas.List.{map-append}
use Rattle.qa_violations.proofs.around_lemmas.Rows.{last_of_more, room_of}
use Rattle.qa_violations.specs.around.Keeping.{room_in}
use Rattle.qa_violations.specs.around.Rows.{last_of}
use Rattle.qa_violations.proofs.around.objects.LatestObjects.keep.Goals as goal

pub returns-clause-kept : goal.returns-clause-kept
returns-clause-kept c = λ os keeps.
    let old = c.args.self.now.objects.items in
    let count = c.args.self.now.count in
    let texts = map (λ object. object.items) old in
    let room : c.reserve.new.self.items ≡ room_in count old = c.reserve.ensures.items ∙ (c.make_room.ensures ∙ ap (λ n. room_in n old) c.from.ensures) in
    let pushed : map (λ object. object.items) c.push_back_reserved.new.self.items ≡ room_in count texts ++ c.args.object.items ∷ [] =
    ap (map (λ object. object.items)) (c.push_back_reserved.ensures.items ∙ ap (λ qs. qs ++ c.args.object ∷ []) room)
    ∙ (map-append (λ object. object.items) (room_in count old) (c.args.object ∷ []) ∙ ap (λ qs. qs ++ c.args.object.items ∷ []) (room_of (λ object. object.items) count old)) in
    let more : room_in count texts ++ c.args.object.items ∷ [] ≡ last_of count (os ++ c.args.object.items ∷ []) = last_of_more count os texts c.args.object.items c.requires.some keeps in
    pushed ∙ more
