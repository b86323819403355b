-- What the three readings of a log take of all its parts.
use Rattle.std.proofs.Common.{◌≡◌, ◌∙◌, ◌⊎◌, inl, inr, ℕ, Bool, true, false, List, [], ◌∷◌, ◌++◌, Option, None, Some, refl, sym, ap, subst}
use Rattle.std.specs.Prelude.{⊤}
use Rattle.std.specs.List.{concat}
use Rattle.std.proofs.lemmas.List.{append_assoc, append-nil}
use Rattle.qa_qlog.specs.Cuts.{Uncut, empty, skeleton_of}
use Rattle.qa_qlog.specs.Cutting as cutting
use Rattle.qa_qlog.specs.Marks.{byte_of}
use Rattle.qa_qlog.specs.Texts.{Numbered, Read, texts_by}
use Rattle.qa_qlog.specs.declared.texts.Mark.{Mark}
use Rattle.qa_logs.specs.Cutting.{Given}
use Rattle.qa_logs.specs.Opening as opening
use Rattle.qa_logs.specs.Opening.{Begins, IsFoundBy, KeepsText, Opened, PassesRecord, SaysBeside, is_enough, unopened}
use Rattle.qa_logs.specs.Surveying as surveying
use Rattle.qa_logs.specs.Surveying.{Begun, SurveysText, Stays}
use Rattle.qa_logs.specs.Tracing as tracing
use Rattle.qa_logs.specs.Tracing.{GivesAway, MayGive, Traced, WritesText, given}
use Rattle.qa_logs.specs.Whole.{FeedsEach, TakesAll, TakesLog, given_by}
use Rattle.qa_logs.specs.declared.choosing.Chosen.{Chosen}
use Rattle.qa_logs.specs.declared.cutting.Cutter.{Cutter}
use Rattle.qa_logs.specs.declared.cutting.Cutter.TheVariants as cutters
use Rattle.qa_logs.specs.declared.cutting.Form.{Form}
use Rattle.qa_logs.specs.declared.cutting.Form.TheVariants as form
use Rattle.qa_logs.specs.declared.cutting.NoTaker.{NoTaker}
use Rattle.qa_logs.specs.declared.cutting.Wants.{Wants}
use Rattle.qa_logs.specs.declared.cutting.Wants.TheVariants.{More, Nothing}
use Rattle.qa_logs.specs.declared.log.Log.{Log}
use Rattle.qa_logs.specs.declared.opening.First.{First}
use Rattle.qa_logs.specs.declared.opening.Found.{Found}
use Rattle.qa_logs.specs.declared.opening.Kept.{Kept}
use Rattle.qa_logs.specs.declared.tracing.Written.{Written}
use Rattle.qa_logs.proofs.Whole.{FedIn, FeedsAll, IsIn, RecordLaws, Rests, TextLaws, log_read, records_fed, texts_read}

-- ---- the first reading

stays_rests : Rests Stays
stays_rests = record {
  none = λ s. refl;
  both = λ a b c first second. second ∙ first;
}

surveys_parts : (parts : List (List ℕ)) (old new : Begun) → FeedsEach surveying.Feeds old parts new → FeedsAll SurveysText Stays old.cutter old.records parts new.cutter new.records
surveys_parts [] old new same = (ap (λ s. s.cutter) same, ap (λ s. s.records) same)
surveys_parts (part ∷ parts) old new (mid, (wants, feeds), each) = (old.records, mid.records, mid.cutter, wants, refl, feeds.takes, surveys_parts parts mid new each)

pub surveyed : TextLaws → RecordLaws → (log : Log) (it : Chosen) (first : surveying.First) (parts : List (List ℕ)) (old mid : Begun) (new : Traced) → surveying.Starts log it first old → FeedsEach surveying.Feeds old parts mid → (leads : surveying.Leads log mid new) → surveying.Surveys log.form (concat parts) old.records leads.last
surveyed texts records_ log it first parts old mid new starts each leads =
    log_read SurveysText Stays stays_rests texts records_ log.form parts old.records leads.last (mid.cutter, mid.records, subst (λ cutter. FeedsAll SurveysText Stays cutter old.records parts mid.cutter mid.records) starts.cutter (surveys_parts parts old mid each), leads.takes)

-- ---- the second

gives_both : (a b c : Written) → GivesAway a b → GivesAway b c → GivesAway a c
gives_both a b c (inl first) (inl second) = inl (second ∙ first)
gives_both a b c (inl first) (inr second) = inr (rw first at second)
gives_both a b c (inr first) (inl second) = inr (second ∙ first)
gives_both a b c (inr first) (inr second) = inr (rw first at second)

gives_rests : Rests GivesAway
gives_rests = record {
  none = λ s. inl refl;
  both = gives_both;
}

given_away : (has_header : Bool) (t : Traced) → t.has_header ≡ has_header → GivesAway t.records (given t).records
given_away true t is = inl (rw is refl)
given_away false t is = inr (rw is refl)

may_give : (old new : Traced) → MayGive old new → GivesAway old.records new.records × (new.cutter ≡ old.cutter)
may_give old new (inl same) = (inl (ap (λ t. t.records) same), ap (λ t. t.cutter) same)
may_give old new (inr is) = (rw is (given_away old.has_header old refl), ap (λ t. t.cutter) is)

writes_parts : (parts : List (List ℕ)) (old last new : Traced) → FeedsEach tracing.FeedsNext old parts last → MayGive last new → FeedsAll WritesText GivesAway old.cutter old.records parts new.cutter new.records
writes_parts [] old last new same may = ((may_give old new (rw same at may)).1, (may_give old new (rw same at may)).0)
writes_parts (part ∷ parts) old last new (mid, (wants, (before, may, feeds)), each) then =
    let gives = may_give old before may in
    (before.records, mid.records, mid.cutter, wants, gives.0, rw gives.1 at feeds.takes, writes_parts parts mid last new each then)

pub traced : TextLaws → RecordLaws → (log : Log) (number : ℕ) (second : tracing.Second) (parts : List (List ℕ)) (old last mid new : Traced) → tracing.Starts log number second old → FeedsEach tracing.FeedsNext old parts last → MayGive last mid → (closed : tracing.Closed mid new) → tracing.Writes log.form (concat parts) old.records closed.last
traced texts records_ log number second parts old last mid new starts each may closed =
    log_read WritesText GivesAway gives_rests texts records_ log.form parts old.records closed.last (mid.cutter, mid.records, subst (λ cutter. FeedsAll WritesText GivesAway cutter old.records parts mid.cutter mid.records) starts.cutter (writes_parts parts old last mid each may), closed.takes)

-- ---- the look at a log

abbrev pub Same : {S : Type 0} → S → S → Type 0
Same old new = new ≡ old

same_rests : {S : Type 0} → Rests (Same {S = S})
same_rests = record {
  none = λ s. refl;
  both = λ a b c first second. second ∙ first;
}

abbrev pub Any : NoTaker → NoTaker → Type 0
Any old new = ⊤

any_rests : Rests Any
any_rests = record {
  none = λ s. tt;
  both = λ a b c first second. tt;
}

-- parts of a log of this form came
abbrev pub AllBy : Form → Found → List (List ℕ) → Found → Type 0
AllBy (form.Texts mark) old parts new = FeedsAll KeepsText Same old.parts old.first parts new.parts new.first
AllBy form.Document old parts new = (before : NoTaker) → (after : NoTaker) × FeedsAll PassesRecord Any old.parts before parts new.parts after

none_by : (f : Form) (found : Found) → AllBy f found [] found
none_by (form.Texts mark) found = (refl, refl)
none_by form.Document found = λ before. (before, (refl, tt))

more_by : (f : Form) (part : List ℕ) (old : Found) (wants : Wants) (mid : Found) (parts : List (List ℕ)) (new : Found) → opening.FeedsBy f part old wants mid → AllBy f mid parts new → AllBy f old (part ∷ parts) new
more_by (form.Texts mark) part old wants mid parts new feeds all = (old.first, mid.first, mid.parts, wants, refl, feeds, all)
more_by form.Document part old wants mid parts new feeds all = λ before.
    let rest = all feeds.1 in
    (rest.0, (feeds.0, feeds.1, mid.parts, wants, tt, feeds.2, rest.1))

-- ---- once it is known what the log is

found_fed : (old mid : Opened) (part : List ℕ) (wants : Wants) (f : Found) → old.found ≡ Some f → opening.Feeds old part wants mid → (g : Found) × (mid.found ≡ Some g) × opening.FeedsFound part f wants g
found_fed old mid part wants f is feeds = rw is at feeds

found_parts : (parts : List (List ℕ)) (old new : Opened) (f : Found) → old.found ≡ Some f → FeedsEach opening.Feeds old parts new → (g : Found) × (new.found ≡ Some g) × (g.form ≡ f.form) × AllBy f.form f parts g
found_parts [] old new f is same = (f, ap (λ o. o.found) same ∙ is, refl, none_by f.form f)
found_parts (part ∷ parts) old new f is (mid, (wants, feeds), each) =
    let found = found_fed old mid part wants f is feeds in
    let rest = found_parts parts mid new found.0 found.1 each in
    (rest.0, rest.1, rest.2 ∙ found.2.0, more_by f.form part f wants found.0 parts rest.0 found.2.1 (rw found.2.0 at rest.3))

-- what the log is was found by its beginning, and the rest of it came
pub record Decided (log : List ℕ) (new : Found) : Type 0 where
  pub bytes : List ℕ
  pub parts : List (List ℕ)
  pub log_ : log ≡ bytes ++ concat parts
  pub wants : Wants
  pub old : Found
  pub by : IsFoundBy bytes wants old
  pub form_ : new.form ≡ old.form
  pub all : AllBy old.form old parts new

abbrev pub Begun_ : List ℕ → Opened → Type 0
Begun_ log new =
    ((new.found ≡ None) × (new.beginning ≡ log))
    ⊎ ((g : Found) × (new.found ≡ Some g) × Decided log g)

begins_at : (enough : Bool) (bytes : List ℕ) (wants : Wants) (mid new : Opened) (parts : List (List ℕ)) → ((beginning : List ℕ) → mid.beginning ≡ beginning → mid.found ≡ None → Begun_ (beginning ++ concat parts) new) → opening.FeedsBeginning enough bytes wants mid → FeedsEach opening.Feeds mid parts new → Begun_ (bytes ++ concat parts) new
begins_at true bytes wants mid new parts goes found each =
    let rest = found_parts parts mid new found.0 found.1 each in
    inr (
      rest.0,
      rest.1,
      record {
        bytes = bytes;
        parts = parts;
        log_ = refl;
        wants = wants;
        old = found.0;
        by = found.2;
        form_ = rest.2;
        all = rest.3;
      },
    )
begins_at false bytes wants mid new parts goes waits each =
    goes bytes (ap (λ o. o.beginning) waits.1) (ap (λ o. o.found) waits.1)

beginning_fed : (old mid : Opened) (part : List ℕ) (wants : Wants) (beginning : List ℕ) → old.beginning ≡ beginning → old.found ≡ None → opening.Feeds old part wants mid → opening.FeedsBeginning (is_enough part (beginning ++ part)) (beginning ++ part) wants mid
beginning_fed old mid part wants beginning is none feeds = rw is at rw none at feeds

beginning_parts : (parts : List (List ℕ)) (old new : Opened) → FeedsEach opening.Feeds old parts new → (beginning : List ℕ) → old.beginning ≡ beginning → old.found ≡ None → Begun_ (beginning ++ concat parts) new
beginning_parts [] old new same beginning is none =
    inl (ap (λ o. o.found) same ∙ none, ap (λ o. o.beginning) same ∙ is ∙ sym (append-nil beginning))
beginning_parts (part ∷ parts) old new (mid, (wants, feeds), each) beginning is none =
    rw (← append_assoc beginning part (concat parts)) (begins_at (is_enough part (beginning ++ part)) (beginning ++ part) wants mid new parts (beginning_parts parts mid new each) (beginning_fed old mid part wants beginning is none feeds) each)

-- ---- its first text

abbrev first_of : List ℕ → List Given → List ℕ
first_of bytes [] = bytes
first_of bytes (t ∷ ts) = t.bytes

one_text : (mark : Mark) (t : Given) (firsts lasts : List Numbered) → given_by mark firsts lasts ≡ t ∷ [] → (n : Numbered) × (firsts ++ lasts ≡ n ∷ []) × (n.bytes ≡ t.bytes)
one_text mark t [] [] is = absurd cc
one_text mark t [] (n ∷ []) is = (n, refl, ap (first_of n.bytes) is)
one_text mark t [] (n ∷ m ∷ ns) is = absurd cc
one_text mark t (n ∷ []) [] is = (n, refl, ap (first_of n.bytes) is)
one_text mark t (n ∷ []) (m ∷ ns) is = absurd cc
one_text mark t (n ∷ m ∷ ns) lasts is = absurd cc

more_nothing : More ≡ Nothing → ⊥
more_nothing is = cc

none_more : (old : First) (ts : List Given) (new : First) → TakesAll KeepsText Same old ts new → (ts ≡ []) × (new ≡ old)
none_more old [] new same = (refl, same)
none_more old (t ∷ ts) new (a, b, here, took, rest) = absurd (more_nothing took.0)

is_first : (mark : Mark) (bytes : List ℕ) (log : Log) (t : Given) (kept : Option Kept) → opening.IsKept t kept → opening.IsFirst kept log → (n : Numbered) → n.bytes ≡ t.bytes → (more : Read) → texts_by (byte_of mark) bytes ≡ ((n ∷ []) ++ more.0, more.1) → SaysBeside (form.Texts mark) bytes log
is_first mark bytes log t None is first n same more texts = absurd first
is_first mark bytes log t (Some kept) is first n same more texts = (n, more, texts, first.0 ∙ is.0 ∙ sym same, first.1)

says_first : (mark : Mark) (bytes : List ℕ) (old last : First) (log : Log) → old.text ≡ None → TakesLog KeepsText Same (form.Texts mark) bytes old last → opening.IsFirst last.text log → SaysBeside (form.Texts mark) bytes log
says_first mark bytes old last log none (ts, inl (are, all)) first =
    let same = none_more old ts last all in
    absurd (rw (ap (λ f. f.text) same.1 ∙ none) at first)
says_first mark bytes old last log none (ts, inr ((firsts, lasts, more, texts, are), (before, t, a, b, is, all, took, here))) first =
    let same = none_more old before a all in
    let one = one_text mark t firsts lasts (sym are ∙ is ∙ ap (λ us. us ++ t ∷ []) same.0) in
    is_first mark bytes log t b.text took.1 (rw (ap (λ f. f.text) here) at first) one.0 one.2 more (rw one.1 at texts)

-- ---- its skeleton

one_log : (a b : Uncut) → Some (cutters.Document a) ≡ Some (cutters.Document b) → a ≡ b
one_log a b is = cc

none_some : (parts : Option Cutter) (log : Uncut) → parts ≡ None → parts ≡ Some (cutters.Document log) → ⊥
none_some parts log none some = (let no : None ≡ Some (cutters.Document log) = sym none ∙ some in cc)

says_skeleton : RecordLaws → (bytes : List ℕ) (before after : NoTaker) (g : Found) (log : Log) → FedIn PassesRecord Any before bytes g.parts after → opening.EndsBy form.Document g log → SaysBeside form.Document bytes log
says_skeleton laws bytes before after g log (inl (taken, r, is, at)) (skeleton, (left, some, ends), (head, torn)) =
    let same = one_log r left (sym is ∙ some) in
    let lacks : cutting.Lacks r r = record {
      keeps = record { left = λ more. refl; refused = refl };
      none = at.none;
    } in
    let whole = ap (λ c. c.1) (laws.ended taken r r bytes lacks at.holds) in
    rw head (rw torn (whole ∙ ap (λ u. skeleton_of u.state) same ∙ ends))
says_skeleton laws bytes before after g log (inr left_) (skeleton, (left, some, ends), beside) = absurd (none_some g.parts left left_.rest_ some)

-- ---- the end

says_by : TextLaws → RecordLaws → (f : Form) (bytes : List ℕ) (parts : List (List ℕ)) (begun old new : Found) (wants : Wants) (log : Log) → Begins f begun → opening.FeedsBy f bytes begun wants old → AllBy f old parts new → opening.EndsBy f new log → SaysBeside f (bytes ++ concat parts) log
says_by texts records_ (form.Texts mark) bytes parts begun old new wants log begins feeds all (last, ends, first) =
    let whole = more_by (form.Texts mark) bytes begun wants old parts new feeds all in
    let fed = subst (λ cutter. FeedsAll KeepsText Same cutter begun.first (bytes ∷ parts) new.parts new.first) begins.parts whole in
    let read = texts_read KeepsText Same same_rests texts mark (bytes ∷ parts) begun.first last (new.parts, new.first, fed, ends) in
    says_first mark (bytes ++ concat parts) begun.first last log begins.text read first
says_by texts records_ form.Document bytes parts begun old new wants log begins (before, after, feeds) all ends =
    let whole = more_by form.Document bytes begun wants old parts new (before, after, feeds) all before in
    let fed = subst (λ cutter. FeedsAll PassesRecord Any cutter before (bytes ∷ parts) new.parts whole.0) begins.parts whole.1 in
    let at : IsIn PassesRecord Any before [] [] empty before = record {
      holds = records_.begun;
      none = refl;
      all = tt;
    } in
    says_skeleton records_ (bytes ++ concat parts) before whole.0 new log (records_fed PassesRecord Any any_rests records_ before (bytes ∷ parts) new.parts whole.0 [] [] empty before at fed) ends

says_decided : TextLaws → RecordLaws → (bytes : List ℕ) (new : Found) (log : Log) → Decided bytes new → opening.EndsFound new log → SaysBeside log.form bytes log
says_decided texts records_ bytes new log decided (is, ends) =
    let by = decided.by in
    let feeds = by.feeds in
    let one : decided.old.form ≡ by.form = feeds.0 ∙ by.begins.form in
    let two : new.form ≡ by.form = decided.form_ ∙ one in
    let fed = subst (λ f. opening.FeedsBy f decided.bytes by.begun decided.wants decided.old) by.begins.form feeds.1 in
    let all = subst (λ f. AllBy f decided.old decided.parts new) one decided.all in
    let end = subst (λ f. opening.EndsBy f new log) two ends in
    let says = says_by texts records_ by.form decided.bytes decided.parts by.begun decided.old new decided.wants log by.begins fed all end in
    subst (λ f. SaysBeside f bytes log) (sym (is ∙ two)) (subst (λ b. SaysBeside by.form b log) (sym decided.log_) says)

says_end : TextLaws → RecordLaws → (bytes : List ℕ) (new : Opened) (log : Log) → Begun_ bytes new → opening.Ends new log → SaysBeside log.form bytes log
says_end texts records_ bytes new log (inl (none, beginning)) ends =
    let by = rw beginning at rw none at ends in
    says_decided texts records_ bytes by.0 log (record {
      bytes = bytes;
      parts = [];
      log_ = sym (append-nil bytes);
      wants = by.1;
      old = by.0;
      by = by.2;
      form_ = refl;
      all = none_by by.0.form by.0;
    }) by.3
says_end texts records_ bytes new log (inr (g, is, decided)) ends =
    says_decided texts records_ bytes g log decided (rw is at ends)

pub opened : TextLaws → RecordLaws → (parts : List (List ℕ)) (o : Opened) (log : Log) → FeedsEach opening.Feeds unopened parts o → opening.Ends o log → SaysBeside log.form (concat parts) log
opened texts records_ parts o log each ends =
    says_end texts records_ (concat parts) o log (beginning_parts parts unopened o each [] refl refl) ends
