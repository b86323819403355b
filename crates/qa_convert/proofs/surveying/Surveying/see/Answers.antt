use Rattle.std.proofs.Common.{◌≡◌, [], refl}
use Rattle.std.proofs.lemmas.Result.{on_ok_weaker}
use Rattle.qa_qlog.specs.Records.{data_of}
use Rattle.qa_convert.proofs.Read.{says_none, says_some}
use Rattle.qa_convert.proofs.Surveyed.{same_survey}
use Rattle.qa_convert.specs.Connections.{numbering_of}
use Rattle.qa_convert.specs.Reading.{at_of, chosen_only, clock_after, connections_after, events_at, name_of, next_index}
use Rattle.qa_convert.specs.Sources.{destination_of, sources_after, sources_in}
use Rattle.std.proofs.lemmas.Result.{IfErr-weaker}
use Rattle.qa_convert.proofs.Faulty.{event_fault, if_err, time_fault}
use Rattle.qa_convert.specs.Faults.{IsFault, IsRecordFault, OfEvent}
use Rattle.qa_convert.proofs.surveying.Surveying.see.Goals as goal

pub returns-in-Some-clause-surveys : goal.returns-in-Some-clause-surveys
returns-in-Some-clause-surveys c j begins =
    let old = c.args.self.now in
    let new = c.see_event.new.self in
    let reads = rw c.in-Some.is at (c.in_ok-named.ensures.reads j begins) in
    let finds = reads.finds in
    let index : new.cursor.index ≡ next_index old.cursor.index = rw c.see_event.ensures.cursor reads.index in
    let clock : new.cursor.clock ≡ clock_after old.cursor.clock reads.event = rw c.see_event.ensures.cursor reads.clock in
    let connections : numbering_of new.cursor.connections ≡ connections_after old.head j (name_of reads.event) (numbering_of old.cursor.connections) = rw c.see_event.ensures.cursor reads.connections in
    on_ok_weaker c.see_event.result
    (λ given. record {
      event = reads.event;
      says = reads.says;
      all = given.0;
      are = says_some old.head j (chosen_only old.head j (numbering_of old.cursor.connections) (name_of reads.event)) c.in-Some.named.name given.0 finds.0 given.1;
      is = same_survey new old.head (clock_after old.cursor.clock reads.event) (connections_after old.head j (name_of reads.event) (numbering_of old.cursor.connections))
          (next_index old.cursor.index) (sources_after (destination_of (data_of old.head.fields j)) (events_at (at_of c.args.place old.cursor.index old.cursor.clock reads.event) given.0) (sources_in old.survey)) c.see_event.ensures.head clock connections index (rw finds.1 at given.2);
    })
    (c.see_event.ensures.says (data_of old.head.fields j) finds.2)

pub returns-in-None-clause-surveys : goal.returns-in-None-clause-surveys
returns-in-None-clause-surveys c j begins =
    let old = c.args.self.now in
    let reads = rw c.in-None.is at (c.in_ok-named.ensures.reads j begins) in
    record {
      event = reads.event;
      says = reads.says;
      all = [];
      are = says_none old.head j (at_of c.args.place old.cursor.index old.cursor.clock reads.event) (chosen_only old.head j (numbering_of old.cursor.connections) (name_of reads.event)) reads.finds;
      is = same_survey (record old { cursor = c.next.new.self }) old.head (clock_after old.cursor.clock reads.event)
          (connections_after old.head j (name_of reads.event) (numbering_of old.cursor.connections)) (next_index old.cursor.index) (sources_in old.survey) refl reads.clock reads.connections reads.index refl;
    }

pub returns-in_err-named-clause-fault : goal.returns-in_err-named-clause-fault
returns-in_err-named-clause-fault c j begins =
    let old = c.args.self.now in
    if_err (IsRecordFault old.head (numbering_of old.cursor.connections) j) c.from_residual.result _ c.from_residual.ensures.1
    (time_fault old.head (numbering_of old.cursor.connections) j _ (c.in_err-named.ensures.fault j begins))

pub returns-in-Some-clause-fault : goal.returns-in-Some-clause-fault
returns-in-Some-clause-fault c j begins =
    let old = c.args.self.now in
    let n = c.in-Some.named.name in
    let d = data_of old.head.fields j in
    let reads = rw c.in-Some.is at (c.in_ok-named.ensures.reads j begins) in
    IfErr-weaker c.see_event.result (OfEvent (IsFault old.head.unit n d)) (IsRecordFault old.head (numbering_of old.cursor.connections) j)
    (λ e. event_fault old.head (numbering_of old.cursor.connections) j reads.event n e reads.says reads.finds.0)
    (c.see_event.ensures.fault d reads.finds.2)
