use Rattle.std.proofs.Common.{◌≡◌, [], refl, subst}
use Rattle.std.proofs.lemmas.Result.{on_ok_weaker}
use Rattle.qa_qlog.specs.Records.{data_of}
use Rattle.qa_convert.proofs.Goes.{goes_none}
use Rattle.qa_convert.proofs.Read.{says_none, says_some}
use Rattle.qa_convert.specs.Connections.{numbering_of}
use Rattle.qa_convert.specs.Reading.{at_of, chosen_only, clock_after, connections_after, events_at, name_of, next_index}
use Rattle.qa_convert.specs.Taking.{Goes, progress_of, told_of}
use Rattle.qa_convert.specs.declared.event.At.{At}
use Rattle.std.proofs.lemmas.Result.{IfErr-weaker}
use Rattle.qa_convert.proofs.Faulty.{event_fault, if_err, of_record_weaker, time_fault}
use Rattle.qa_convert.specs.Faults.{IsFault, IsRecordFault, OfEvent, OfRecord}
use Rattle.qa_convert.proofs.converting.Converting.take.Goals as goal

pub returns-in-Some-clause-takes : goal.returns-in-Some-clause-takes
returns-in-Some-clause-takes c j begins =
    let old = c.args.self.now in
    let new = c.take_event.new.self in
    let reads = rw c.in-Some.is at (c.in_ok-named.ensures.reads j begins) in
    let finds = reads.finds in
    on_ok_weaker c.take_event.result
    (λ given. record {
      event = reads.event;
      says = reads.says;
      index = let index : new.cursor.index ≡ next_index old.cursor.index = rw c.take_event.ensures.cursor reads.index in index;
      clock = let clock : new.cursor.clock ≡ clock_after old.cursor.clock reads.event = rw c.take_event.ensures.cursor reads.clock in clock;
      connections =
          let connections : numbering_of new.cursor.connections ≡ connections_after old.head j (name_of reads.event) (numbering_of old.cursor.connections) = rw c.take_event.ensures.cursor reads.connections in connections;
      all = given.0;
      are = says_some old.head j (chosen_only old.head j (numbering_of old.cursor.connections) (name_of reads.event)) c.in-Some.named.name given.0 finds.0 given.1;
      goes =
          let goes : Goes (events_at c.in-Some.named.at given.0) (progress_of old) (told_of old) (progress_of new) (told_of new) = record { head = given.2.head; retry = given.2.retry; passes = given.2.passes } in
          subst (λ (at : At). Goes (events_at at given.0) (progress_of old) (told_of old) (progress_of new) (told_of new)) finds.1 goes;
    })
    (c.take_event.ensures.goes (data_of old.head.fields j) finds.2)

pub returns-in-None-clause-takes : goal.returns-in-None-clause-takes
returns-in-None-clause-takes c j begins =
    let old = c.args.self.now in
    let reads = rw c.in-None.is at (c.in_ok-named.ensures.reads j begins) in
    record {
      event = reads.event;
      says = reads.says;
      index = reads.index;
      clock = reads.clock;
      connections = reads.connections;
      all = [];
      are = says_none old.head j (at_of c.args.place old.cursor.index old.cursor.clock reads.event) (chosen_only old.head j (numbering_of old.cursor.connections) (name_of reads.event)) reads.finds;
      goes = goes_none (progress_of old) (progress_of (record old { cursor = c.next.new.self })) (told_of old) (told_of old) refl refl refl refl refl refl refl;
    }

pub returns-in_err-named-clause-fault : goal.returns-in_err-named-clause-fault
returns-in_err-named-clause-fault c j begins =
    let old = c.args.self.now in
    let named = numbering_of old.cursor.connections in
    if_err (OfRecord (IsRecordFault old.head named j)) c.from_residual.result _ c.from_residual.ensures.1
    (time_fault old.head named j _ (c.in_err-named.ensures.fault j begins))

pub returns-in-Some-clause-fault : goal.returns-in-Some-clause-fault
returns-in-Some-clause-fault c j begins =
    let old = c.args.self.now in
    let named = numbering_of old.cursor.connections in
    let n = c.in-Some.named.name in
    let d = data_of old.head.fields j in
    let reads = rw c.in-Some.is at (c.in_ok-named.ensures.reads j begins) in
    IfErr-weaker c.take_event.result (OfRecord (OfEvent (IsFault old.head.unit n d))) (OfRecord (IsRecordFault old.head named j))
    (λ e. of_record_weaker (OfEvent (IsFault old.head.unit n d)) (IsRecordFault old.head named j) e (λ e. event_fault old.head named j reads.event n e reads.says reads.finds.0))
    (c.take_event.ensures.fault d reads.finds.2)
