-- A log that comes in parts hands on the texts of all its bytes.
use Rattle.std.proofs.Common.{◌≡◌, ◌∙◌, ◌⊎◌, inl, inr, ℕ, Bool, true, false, List, [], ◌∷◌, ◌++◌, map, Option, None, Some, refl, sym, ap}
use Rattle.std.specs.List.{concat}
use Rattle.std.proofs.lemmas.Bool.{false≢true}
use Rattle.std.proofs.lemmas.List.{append_assoc, append-nil, map-append}
use Rattle.qa_qlog.specs.Cuts.{Cut, Uncut, cuts_of, empty, skeleton_of}
use Rattle.qa_qlog.specs.Cutting as cutting
use Rattle.qa_qlog.specs.Holding as holding
use Rattle.qa_qlog.specs.Holding.{Holds}
use Rattle.qa_qlog.specs.Marks.{byte_of}
use Rattle.qa_qlog.specs.Standing as standing
use Rattle.qa_qlog.specs.Standing.{Stands, after}
use Rattle.qa_qlog.specs.Taking as taking
use Rattle.qa_qlog.specs.Taking.{MayFollow, TakesText}
use Rattle.qa_qlog.specs.Texts.{Numbered, Read, Rest, left, text_limit, texts_by}
use Rattle.qa_qlog.specs.declared.texts.Mark.{Mark}
use Rattle.qa_logs.specs.Cutting.{Ends, Feeds, Given, HandsAll, NextRecord, NextText, Steps, Takes, WantsMore, fresh, left_by, of_record, of_text}
use Rattle.qa_logs.specs.Whole.{Between, TakesAll, TakesLog, TakesUpTo, given_by}
use Rattle.qa_logs.specs.declared.cutting.Cutter.{Cutter}
use Rattle.qa_logs.specs.declared.cutting.Cutter.TheVariants as cutters
use Rattle.qa_logs.specs.declared.cutting.Form.{Form}
use Rattle.qa_logs.specs.declared.cutting.Form.TheVariants as form
use Rattle.qa_logs.specs.declared.cutting.Wants.{Wants}
use Rattle.qa_logs.specs.declared.cutting.Wants.TheVariants.{More, Nothing}
use Rattle.qa_logs.proofs.Handing.{RecordLaw, TextLaw, records_of, texts_of}

-- parts came one after another, and what cuts the log is known too
abbrev pub FeedsAll : {S : Type 0} → Takes S → Between S → Option Cutter → S → List (List ℕ) → Option Cutter → S → Type 0
FeedsAll takes between log old [] rest new = (rest ≡ log) × between old new
FeedsAll {S} takes between log old (part ∷ parts) rest new = (a : S) × (b : S)
    × (mid : Option Cutter) × (wants : Wants) × between old a × Feeds takes log part a mid b wants
    × FeedsAll takes between mid b parts rest new

-- a log of this form came in these parts, and ended
abbrev pub ReadsAll : {S : Type 0} → Takes S → Between S → Form → List (List ℕ) → S → S → Type 0
ReadsAll {S} takes between f parts old new = (rest : Option Cutter) × (last : S)
    × FeedsAll takes between (Some (fresh f)) old parts rest last × Ends takes rest last new

-- what is done between two parts may be nothing, or something and something more
pub record Rests {S : Type 0} (between : Between S) : Type 0 where
  pub none : (s : S) → between s s
  pub both : (a b c : S) → between a b → between b c → between a c

pub record TextLaws : Type 0 where
  pub begun : (rest : Rest) → rest.uncut.bytes ≡ [] → rest.line ≡ 1 → Stands [] rest []
  pub fed : (taken : List Numbered) (rest : Rest) (log part : List ℕ) → rest.uncut.closed ≡ false → Stands taken rest log → Stands taken (standing.fed rest part) (log ++ part)
  pub closed : (taken : List Numbered) (rest : Rest) (log : List ℕ) → Stands taken rest log → Stands taken (standing.closed rest) log
  pub text : TextLaw
  pub none : (taken : List Numbered) (old new : Rest) (log : List ℕ) → taking.Lacks old new → Stands taken old log → Stands taken new log
  pub ended : (taken : List Numbered) (old new : Rest) (log : List ℕ) → taking.Lacks old new → old.uncut.closed ≡ true → Stands taken old log → texts_by old.uncut.mark log ≡ (taken, None)

pub record RecordLaws : Type 0 where
  pub begun : Holds [] empty []
  pub fed : (taken : List Cut) (rest : Uncut) (log part : List ℕ) → Holds taken rest log → Holds taken (holding.fed rest part) (log ++ part)
  pub taken : RecordLaw
  pub none : (taken : List Cut) (old new : Uncut) (log : List ℕ) → cutting.Lacks old new → Holds taken old log → Holds taken new log
  pub ended : (taken : List Cut) (old new : Uncut) (log : List ℕ) → cutting.Lacks old new → Holds taken old log → cuts_of log ≡ (taken, skeleton_of new.state)

-- ---- chains

pub extended : {S : Type 0} (takes : Takes S) (between : Between S) (rests : Rests between) (old : S) (ts : List Given) (mid new : S) → TakesAll takes between old ts mid → between mid new → TakesAll takes between old ts new
extended takes between rests old [] mid new here there = rests.both old mid new here there
extended takes between rests old (t ∷ ts) mid new all there = (all.0, all.1, all.2, all.3, extended takes between rests all.1 ts mid new all.4 there)

pub joined : {S : Type 0} (takes : Takes S) (between : Between S) (rests : Rests between) (old : S) (ts : List Given) (mid : S) (us : List Given) (new : S) → TakesAll takes between old ts mid → TakesAll takes between mid us new → TakesAll takes between old (ts ++ us) new
joined takes between rests old [] mid [] new here more = rests.both old mid new here more
joined takes between rests old [] mid (u ∷ us) new here more = (more.0, more.1, rests.both old mid more.0 here more.2, more.3, more.4)
joined takes between rests old (t ∷ ts) mid us new all more = (all.0, all.1, all.2, all.3, joined takes between rests all.1 ts mid us new all.4 more)

pub of_steps : {S : Type 0} (takes : Takes S) (between : Between S) (rests : Rests between) (old : S) (ts : List Given) (new : S) → Steps (WantsMore takes) old ts new → TakesAll takes between old ts new
of_steps takes between rests old [] new same = rw same (rests.none old)
of_steps takes between rests old (t ∷ ts) new steps = (old, steps.0, rests.none old, steps.1, of_steps takes between rests steps.0 ts new steps.2)

-- nothing is taken once no more is wanted
pub none_fed : {S : Type 0} (takes : Takes S) (between : Between S) (rests : Rests between) (old : S) (parts : List (List ℕ)) (rest : Option Cutter) (new : S) → FeedsAll takes between None old parts rest new → (rest ≡ None) × between old new
none_fed takes between rests old [] rest new all = all
none_fed takes between rests old (part ∷ parts) rest new all =
    let feeds = all.5 in
    let more = none_fed takes between rests all.1 parts rest new (rw feeds.1 at all.6) in
    (more.0, rests.both old all.0 new all.4 (rw feeds.2 at more.1))

-- ---- many texts

pub steps_same : (mark : Mark) (is_last : Bool) (old new : Rest) (ts : List Given) → Steps (NextText mark is_last) old ts new → (new.uncut.closed ≡ old.uncut.closed) × (new.uncut.mark ≡ old.uncut.mark)
steps_same mark is_last old new [] same = (ap (λ r. r.uncut.closed) same, ap (λ r. r.uncut.mark) same)
steps_same mark is_last old new (t ∷ ts) steps =
    let takes : TakesText old steps.1.0 steps.0 = steps.1.1 in
    let rest = steps_same mark is_last steps.0 new ts steps.2 in
    (rest.0 ∙ takes.closed, rest.1 ∙ takes.mark)

-- these texts were returned of a log that is open, of which these bytes were fed, and taken
pub record IsAt {S : Type 0} (takes : Takes S) (between : Between S) (mark : Mark) (old : S) (log : List ℕ) (taken : List Numbered) (rest : Rest) (now : S) : Type 0 where
  pub stands : Stands taken rest log
  pub open_ : rest.uncut.closed ≡ false
  pub mark_ : rest.uncut.mark ≡ byte_of mark
  pub all : TakesAll takes between old (map (of_text mark false) taken) now

pub record Stopped {S : Type 0} (takes : Takes S) (between : Between S) (mark : Mark) (old : S) (log : List ℕ) (rest : Option Cutter) (now : S) : Type 0 where
  pub rest_ : rest ≡ None
  pub taken : List Numbered
  pub more : Read
  pub first : texts_by (byte_of mark) log ≡ after taken more
  pub all : TakesUpTo takes between old (map (of_text mark false) taken) now

abbrev pub Fed : {S : Type 0} → Takes S → Between S → Mark → S → List ℕ → Option Cutter → S → Type 0
Fed takes between mark old log rest now =
    ((taken : List Numbered) × (r : Rest) × (rest ≡ Some (cutters.Texts r mark)) × IsAt takes between mark old log taken r now)
    ⊎ Stopped takes between mark old log rest now

abbrev pub Goes : {S : Type 0} → Takes S → Between S → Mark → S → List (List ℕ) → Option Cutter → S → Type 0
Goes {S} takes between mark old parts rest new =
    (log : List ℕ) (taken : List Numbered) (r : Rest) (now : S) → IsAt takes between mark old log taken r now → FeedsAll takes between (Some (cutters.Texts r mark)) now parts rest new → Fed takes between mark old (log ++ concat parts) rest new

pub part_fed : {S : Type 0} (takes : Takes S) (between : Between S) (rests : Rests between) (laws : TextLaws) (mark : Mark) (old : S) (parts : List (List ℕ)) (rest : Option Cutter) (new : S) → Goes takes between mark old parts rest new → (log : List ℕ) (taken : List Numbered) (r : Rest) (now : S) → IsAt takes between mark old log taken r now → (part : List ℕ) (a b : S) (mid : Option Cutter) (l : Rest) (wants : Wants) → between now a → HandsAll (NextText mark false) taking.Lacks takes (standing.fed r part) a l b wants → mid ≡ left_by wants (cutters.Texts l mark) → FeedsAll takes between mid b parts rest new → Fed takes between mark old ((log ++ part) ++ concat parts) rest new
part_fed takes between rests laws mark old parts rest new goes log taken r now at part a b mid l More here hands is feeds =
    let texts = texts_of laws.text mark false (standing.fed r part) hands.1 hands.0 taken (log ++ part) hands.2 (laws.fed taken r log part at.open_ at.stands) in
    let same = steps_same mark false (standing.fed r part) hands.1 hands.0 hands.2 in
    let before = extended takes between rests old (map (of_text mark false) taken) now a at.all here in
    let more = of_steps takes between rests a hands.0 b hands.4 in
    goes (log ++ part) (taken ++ texts.0) l b (record {
      stands = laws.none (taken ++ texts.0) hands.1 l (log ++ part) hands.3 texts.2;
      open_ = hands.3.keeps.closed ∙ same.0 ∙ at.open_;
      mark_ = hands.3.keeps.mark ∙ same.1 ∙ at.mark_;
      all = rw (map-append (of_text mark false) taken texts.0) (rw (← texts.1) (joined takes between rests old (map (of_text mark false) taken) a hands.0 b before more));
    }) (rw is at feeds)
part_fed takes between rests laws mark old parts rest new goes log taken r now at part a b mid l Nothing here hands is feeds =
    let texts = texts_of laws.text mark false (standing.fed r part) hands.2 hands.0 taken (log ++ part) hands.4 (laws.fed taken r log part at.open_ at.stands) in
    let same = steps_same mark false (standing.fed r part) hands.2 hands.0 hands.4 in
    let step = hands.5 in
    let took : TakesText hands.2 step.0 l = step.1 in
    let open_ : l.uncut.closed ≡ false = took.closed ∙ same.0 ∙ at.open_ in
    let mark_ : l.uncut.mark ≡ byte_of mark = took.mark ∙ same.1 ∙ at.mark_ in
    let stands : Stands ((taken ++ texts.0) ++ step.0 ∷ []) l (log ++ part) = laws.text (taken ++ texts.0) hands.2 l step.0 (log ++ part) took texts.2 in
    let before = extended takes between rests old (map (of_text mark false) taken) now a at.all here in
    let more = of_steps takes between rests a hands.0 hands.3 hands.6 in
    let done = none_fed takes between rests b parts rest new (rw is at feeds) in
    inr (record {
      rest_ = done.0;
      taken = (taken ++ texts.0) ++ step.0 ∷ [];
      more = left l (concat parts);
      first = rw (← mark_) (stands (concat parts) (λ closed. absurd (false≢true (sym open_ ∙ closed))));
      all = (
        map (of_text mark false) (taken ++ texts.0),
        hands.1,
        hands.3,
        b,
        rw step.2 (map-append (of_text mark false) (taken ++ texts.0) (step.0 ∷ [])),
        rw (map-append (of_text mark false) taken texts.0) (rw (← texts.1) (joined takes between rests old (map (of_text mark false) taken) a hands.0 hands.3 before more)),
        hands.7,
        done.1,
      );
    })

pub texts_fed : {S : Type 0} (takes : Takes S) (between : Between S) (rests : Rests between) (laws : TextLaws) (mark : Mark) (old : S) (parts : List (List ℕ)) (rest : Option Cutter) (new : S) → Goes takes between mark old parts rest new
texts_fed takes between rests laws mark old [] rest new log taken r now at feeds =
    inl (
      taken,
      r,
      feeds.0,
      rw (append-nil log) (record {
        stands = at.stands;
        open_ = at.open_;
        mark_ = at.mark_;
        all = extended takes between rests old (map (of_text mark false) taken) now new at.all feeds.1;
      }),
    )
texts_fed takes between rests laws mark old (part ∷ parts) rest new log taken r now at feeds =
    rw (← append_assoc log part (concat parts)) (part_fed takes between rests laws mark old parts rest new (texts_fed takes between rests laws mark old parts rest new) log taken r now at part feeds.0 feeds.1 feeds.2 feeds.5.0 feeds.3 feeds.4 feeds.5.1 feeds.5.2 feeds.6)

-- a log of many texts of which nothing came yet
abbrev pub fresh_rest : Mark → Rest
fresh_rest mark = record {
  uncut = record {
    mark = byte_of mark;
    limit = text_limit;
    bytes = [];
    closed = false;
    refused = None;
  };
  line = 1;
}

-- ---- the end of many texts

at_end : (m n : ℕ) (log : List ℕ) (read : Read) → m ≡ n → texts_by m (log ++ []) ≡ read → texts_by n log ≡ read
at_end m n log read same is = ap (λ k. texts_by k log) (sym same) ∙ ap (texts_by m) (sym (append-nil log)) ∙ is

last_given : (mark : Mark) (firsts lasts : List Numbered) (text : Numbered) (ts : List Given) (t : Given) → ts ≡ map (of_text mark true) lasts → t ≡ of_text mark true text → given_by mark firsts (lasts ++ text ∷ []) ≡ (map (of_text mark false) firsts ++ ts) ++ t ∷ []
last_given mark firsts lasts text ts t are is =
    let front = map (of_text mark false) firsts in
    let them = of_text mark true in
    ap (λ us. front ++ us) (map-append them lasts (text ∷ []))
    ∙ sym (append_assoc front (map them lasts) (them text ∷ []))
    ∙ ap (λ us. (front ++ us) ++ them text ∷ []) (sym are)
    ∙ ap (λ u. (front ++ ts) ++ u ∷ []) (sym is)

pub texts_ended : {S : Type 0} (takes : Takes S) (between : Between S) (rests : Rests between) (laws : TextLaws) (mark : Mark) (old : S) (log : List ℕ) (taken : List Numbered) (r : Rest) (last : S) → IsAt takes between mark old log taken r last → (l : Rest) (wants : Wants) (new : S) → HandsAll (NextText mark true) taking.Lacks takes (standing.closed r) last l new wants → TakesLog takes between (form.Texts mark) log old new
texts_ended takes between rests laws mark old log taken r last at l More new hands =
    let texts = texts_of laws.text mark true (standing.closed r) hands.1 hands.0 taken log hands.2 (laws.closed taken r log at.stands) in
    let same = steps_same mark true (standing.closed r) hands.1 hands.0 hands.2 in
    let mark_ : hands.1.uncut.mark ≡ byte_of mark = same.1 ∙ at.mark_ in
    let more = of_steps takes between rests last hands.0 new hands.4 in (
      given_by mark taken texts.0,
      inl (
        (taken, texts.0, rw (← mark_) (laws.ended (taken ++ texts.0) hands.1 l log hands.3 same.0 texts.2), refl),
        rw (← texts.1) (joined takes between rests old (map (of_text mark false) taken) last hands.0 new at.all more),
      ),
    )
texts_ended takes between rests laws mark old log taken r last at l Nothing new hands =
    let texts = texts_of laws.text mark true (standing.closed r) hands.2 hands.0 taken log hands.4 (laws.closed taken r log at.stands) in
    let same = steps_same mark true (standing.closed r) hands.2 hands.0 hands.4 in
    let step = hands.5 in
    let took : TakesText hands.2 step.0 l = step.1 in
    let mark_ : l.uncut.mark ≡ byte_of mark = took.mark ∙ same.1 ∙ at.mark_ in
    let stands : Stands ((taken ++ texts.0) ++ step.0 ∷ []) l log = laws.text (taken ++ texts.0) hands.2 l step.0 log took texts.2 in
    let more = of_steps takes between rests last hands.0 hands.3 hands.6 in
    let first = at_end l.uncut.mark (byte_of mark) log (after ((taken ++ texts.0) ++ step.0 ∷ []) (left l [])) mark_ (stands [] (λ closed. refl)) in (
      given_by mark taken (texts.0 ++ step.0 ∷ []),
      inr (
        (
          taken,
          texts.0 ++ step.0 ∷ [],
          left l [],
          first ∙ ap (λ ts. after ts (left l [])) (append_assoc taken texts.0 (step.0 ∷ [])),
          refl,
        ),
        (
          map (of_text mark false) taken ++ hands.0,
          hands.1,
          hands.3,
          new,
          last_given mark taken texts.0 step.0 hands.0 hands.1 texts.1 step.2,
          joined takes between rests old (map (of_text mark false) taken) last hands.0 hands.3 at.all more,
          hands.7,
          rests.none new,
        ),
      ),
    )

pub texts_end : {S : Type 0} (takes : Takes S) (between : Between S) (rests : Rests between) (laws : TextLaws) (mark : Mark) (old : S) (log : List ℕ) (rest : Option Cutter) (last new : S) → Fed takes between mark old log rest last → Ends takes rest last new → TakesLog takes between (form.Texts mark) log old new
texts_end takes between rests laws mark old log rest last new (inl at) ends =
    let hands = rw at.2 at ends in
    texts_ended takes between rests laws mark old log at.0 at.1 last at.3 hands.0 hands.1 new hands.2
texts_end takes between rests laws mark old log rest last new (inr stopped) ends =
    let same = rw stopped.rest_ at ends in
    rw same (
      map (of_text mark false) stopped.taken,
      inr (
        (stopped.taken, [], stopped.more, rw (append-nil stopped.taken) stopped.first, sym (append-nil (map (of_text mark false) stopped.taken))),
        stopped.all,
      ),
    )

pub texts_read : {S : Type 0} (takes : Takes S) (between : Between S) → Rests between → TextLaws → (mark : Mark) (parts : List (List ℕ)) (old new : S) → ReadsAll takes between (form.Texts mark) parts old new → TakesLog takes between (form.Texts mark) (concat parts) old new
texts_read takes between rests laws mark parts old new reads =
    let start = fresh_rest mark in
    let at : IsAt takes between mark old [] [] start old = record {
      stands = laws.begun start refl refl;
      open_ = refl;
      mark_ = refl;
      all = rests.none old;
    } in
    texts_end takes between rests laws mark old (concat parts) reads.0 reads.1 new (texts_fed takes between rests laws mark old parts reads.0 reads.1 [] [] start old at reads.2) reads.3

-- ---- one object

pub record IsIn {S : Type 0} (takes : Takes S) (between : Between S) (old : S) (log : List ℕ) (taken : List Cut) (rest : Uncut) (now : S) : Type 0 where
  pub holds : Holds taken rest log
  pub none : rest.bytes ≡ []
  pub all : TakesAll takes between old (map of_record taken) now

pub record Left {S : Type 0} (takes : Takes S) (between : Between S) (old : S) (log : List ℕ) (rest : Option Cutter) (now : S) : Type 0 where
  pub rest_ : rest ≡ None
  pub taken : List Cut
  pub more : List Cut
  pub first : (cuts_of log).0 ≡ taken ++ more
  pub all : TakesUpTo takes between old (map of_record taken) now

abbrev pub FedIn : {S : Type 0} → Takes S → Between S → S → List ℕ → Option Cutter → S → Type 0
FedIn takes between old log rest now =
    ((taken : List Cut) × (r : Uncut) × (rest ≡ Some (cutters.Document r)) × IsIn takes between old log taken r now)
    ⊎ Left takes between old log rest now

abbrev pub GoesIn : {S : Type 0} → Takes S → Between S → S → List (List ℕ) → Option Cutter → S → Type 0
GoesIn {S} takes between old parts rest new =
    (log : List ℕ) (taken : List Cut) (r : Uncut) (now : S) → IsIn takes between old log taken r now → FeedsAll takes between (Some (cutters.Document r)) now parts rest new → FedIn takes between old (log ++ concat parts) rest new

pub part_in : {S : Type 0} (takes : Takes S) (between : Between S) (rests : Rests between) (laws : RecordLaws) (old : S) (parts : List (List ℕ)) (rest : Option Cutter) (new : S) → GoesIn takes between old parts rest new → (log : List ℕ) (taken : List Cut) (r : Uncut) (now : S) → IsIn takes between old log taken r now → (part : List ℕ) (a b : S) (mid : Option Cutter) (l : Uncut) (wants : Wants) → between now a → HandsAll NextRecord cutting.Lacks takes (holding.fed r part) a l b wants → mid ≡ left_by wants (cutters.Document l) → FeedsAll takes between mid b parts rest new → FedIn takes between old ((log ++ part) ++ concat parts) rest new
part_in takes between rests laws old parts rest new goes log taken r now at part a b mid l More here hands is feeds =
    let cuts = records_of laws.taken (holding.fed r part) hands.1 hands.0 taken (log ++ part) hands.2 (laws.fed taken r log part at.holds) in
    let before = extended takes between rests old (map of_record taken) now a at.all here in
    let more = of_steps takes between rests a hands.0 b hands.4 in
    goes (log ++ part) (taken ++ cuts.0) l b (record {
      holds = laws.none (taken ++ cuts.0) hands.1 l (log ++ part) hands.3 cuts.2;
      none = hands.3.none;
      all = rw (map-append of_record taken cuts.0) (rw (← cuts.1) (joined takes between rests old (map of_record taken) a hands.0 b before more));
    }) (rw is at feeds)
part_in takes between rests laws old parts rest new goes log taken r now at part a b mid l Nothing here hands is feeds =
    let cuts = records_of laws.taken (holding.fed r part) hands.2 hands.0 taken (log ++ part) hands.4 (laws.fed taken r log part at.holds) in
    let step = hands.5 in
    let holds : Holds ((taken ++ cuts.0) ++ step.0 ∷ []) l (log ++ part) = laws.taken (taken ++ cuts.0) hands.2 l step.0 (log ++ part) step.1 cuts.2 in
    let before = extended takes between rests old (map of_record taken) now a at.all here in
    let more = of_steps takes between rests a hands.0 hands.3 hands.6 in
    let done = none_fed takes between rests b parts rest new (rw is at feeds) in
    inr (record {
      rest_ = done.0;
      taken = (taken ++ cuts.0) ++ step.0 ∷ [];
      more = (cutting.left l (concat parts)).0;
      first = ap (λ c. c.0) (holds (concat parts));
      all = (
        map of_record (taken ++ cuts.0),
        hands.1,
        hands.3,
        b,
        rw step.2 (map-append of_record (taken ++ cuts.0) (step.0 ∷ [])),
        rw (map-append of_record taken cuts.0) (rw (← cuts.1) (joined takes between rests old (map of_record taken) a hands.0 hands.3 before more)),
        hands.7,
        done.1,
      );
    })

pub records_fed : {S : Type 0} (takes : Takes S) (between : Between S) (rests : Rests between) (laws : RecordLaws) (old : S) (parts : List (List ℕ)) (rest : Option Cutter) (new : S) → GoesIn takes between old parts rest new
records_fed takes between rests laws old [] rest new log taken r now at feeds =
    inl (
      taken,
      r,
      feeds.0,
      rw (append-nil log) (record {
        holds = at.holds;
        none = at.none;
        all = extended takes between rests old (map of_record taken) now new at.all feeds.1;
      }),
    )
records_fed takes between rests laws old (part ∷ parts) rest new log taken r now at feeds =
    rw (← append_assoc log part (concat parts)) (part_in takes between rests laws old parts rest new (records_fed takes between rests laws old parts rest new) log taken r now at part feeds.0 feeds.1 feeds.2 feeds.5.0 feeds.3 feeds.4 feeds.5.1 feeds.5.2 feeds.6)

pub records_end : {S : Type 0} (takes : Takes S) (between : Between S) (rests : Rests between) (laws : RecordLaws) (old : S) (log : List ℕ) (rest : Option Cutter) (last new : S) → FedIn takes between old log rest last → Ends takes rest last new → TakesLog takes between form.Document log old new
records_end takes between rests laws old log rest last new (inl at) ends =
    let same = rw at.2 at ends in
    let lacks : cutting.Lacks at.1 at.1 = record {
      keeps = record { left = λ more. refl; refused = refl };
      none = at.3.none;
    } in
    rw same (
      map of_record at.0,
      inl ((at.0, skeleton_of at.1.state, laws.ended at.0 at.1 at.1 log lacks at.3.holds, refl), at.3.all),
    )
records_end takes between rests laws old log rest last new (inr left_) ends =
    let same = rw left_.rest_ at ends in
    rw same (
      map of_record left_.taken,
      inr ((left_.taken, left_.more, left_.first, refl), left_.all),
    )

pub records_read : {S : Type 0} (takes : Takes S) (between : Between S) → Rests between → RecordLaws → (parts : List (List ℕ)) (old new : S) → ReadsAll takes between form.Document parts old new → TakesLog takes between form.Document (concat parts) old new
records_read takes between rests laws parts old new reads =
    let at : IsIn takes between old [] [] empty old = record {
      holds = laws.begun;
      none = refl;
      all = rests.none old;
    } in
    records_end takes between rests laws old (concat parts) reads.0 reads.1 new (records_fed takes between rests laws old parts reads.0 reads.1 [] [] empty old at reads.2) reads.3

pub log_read : {S : Type 0} (takes : Takes S) (between : Between S) → Rests between → TextLaws → RecordLaws → (f : Form) (parts : List (List ℕ)) (old new : S) → ReadsAll takes between f parts old new → TakesLog takes between f (concat parts) old new
log_read takes between rests texts records_ (form.Texts mark) parts old new reads = texts_read takes between rests texts mark parts old new reads
log_read takes between rests texts records_ form.Document parts old new reads = records_read takes between rests records_ parts old new reads
