-- What follows of a run from the conversion in it.
use Rattle.pgn_tool.proofs.Words.{◌≡◌, ◌∙◌, ℕ, ◌^◌, ◌<◌, ◌≤◌, Bool, true, false, List, ◌++◌, length, ap, subst, sym, arith, take, length-append, Option, Some, take-length, Result, Ok, Err, OnOk, is_ok, codes, ◌⊎◌, if◌then◌else◌, Appends, Counted, line_of, Consumes, Keeps, Counts, Device, IsStill, NoneUnflushed, Writes, one_more, Reason, Fault, Totals, Profile, tokens_of, Read, read, refused, totals, verdict_of, profile_of, AfterConversion, CountsDevices, Fails, IsConverted, Stopped, CountsReadFault, ListResult, ListStops, list_profile, Answers, Blames, Concludes, Ends, EndsList, FlushesLast, HasFailed, IsCalm, IsSmooth, Job, Runs, Tells, TellsVerdict, Works, WritesLast, checking, exporting, line, listing, status_of, Appends-kept, device, Verdict, IfSome_then, common_steps}

-- ---- devices

-- what a write of a text and a flush after it leave
pub front_on : {A E : Type 0} → (r : Result A E) (a b c : Option (List ℕ)) (text : List ℕ) → Writes a b r text → Keeps b c
    → (count : ℕ) × Appends a c (take count text)
front_on (Ok x) a b c text writes keeps = (length text, Appends-kept a b c _ (subst (Appends a b) (sym (take-length text)) writes) keeps)
front_on (Err e) a b c text writes keeps = (writes.0, Appends-kept a b c _ writes.2 keeps)

pub calm_fails : (d : Device) → IsCalm d → HasFailed d → ⊥
calm_fails d calm failed = omega (arith, calm.0, calm.1)

-- ---- a run without a fault

-- the count of failures around one call that may fail
abbrev pub CountsOneAtMost : ℕ → ℕ → Type 0
CountsOneAtMost old new = (new ≡ old) ⊎ (new ≡ one_more old)

pub flushes_last : {A E : Type 0} → (r : Result A E) (mid new : ℕ) (unflushed : Option (List ℕ)) → Counts r mid new
    → OnOk r (NoneUnflushed unflushed) → FlushesLast mid new unflushed
flushes_last r mid new unflushed counts empty = grind (arith, common_steps)

-- the same behind a text
pub writes_last : {A E B F : Type 0} → (r : Result A E) (flushed : Result B F) (a b c : Option (List ℕ)) (text : List ℕ)
    (old mid new : ℕ) (unflushed : Option (List ℕ)) → Writes a b r text → Keeps b c → Counts r old mid → Counts flushed mid new
    → OnOk flushed (NoneUnflushed unflushed)
    → WritesLast (record { before = a; after = c; failures = old; failures_after = new }) text unflushed
writes_last r flushed a b c text old mid new unflushed writes keeps still counts empty = grind (arith, common_steps, flushes_last)

-- the status says whether all was written
pub concludes_as : {S : Type 0}
    → (taken : S → Option (List ℕ)) (failures : S → ℕ) (old new : S) (is_written : Bool) (source out : Device) (status : ℕ)
    → IsStill source → (is_written ≡ true → IsStill out)
    → (is_written ≡ false → HasFailed out) → status ≡ (if is_written then 0 else 1) → (is_written ≡ true → new ≡ old)
    → (is_written ≡ false → Tells (device taken failures old new) (line (codes "output cannot be written")))
    → Concludes source out (device taken failures old new) status
concludes_as taken failures old new is_written source out status read still failed is untouched told = grind (arith, common_steps)

-- the same where a flush says it: one that did well leaves the count, and one that failed raises it
pub concludes_flushed : {A E S : Type 0}
    → (taken : S → Option (List ℕ)) (failures : S → ℕ) (old new : S) (r : Result A E) (is_written : Bool) (source out : Device)
    (mid status : ℕ) → is_written ≡ is_ok r → IsStill source → mid ≡ out.failures
    → Counts r mid out.failures_after → status ≡ (if is_written then 0 else 1) → (is_written ≡ true → new ≡ old)
    → (is_written ≡ false → Tells (device taken failures old new) (line (codes "output cannot be written")))
    → Concludes source out (device taken failures old new) status
concludes_flushed taken failures old new r is_written source out mid status same read kept counts = grind (arith, common_steps, concludes_as)

-- a text is told where it was written or the sink has failed
pub tells_as : (is_written : Bool) (d : Device) (text : List ℕ) → (is_written ≡ true → Appends d.before d.after text)
    → (is_written ≡ false → HasFailed d) → Tells d text
tells_as is_written d text written failed = grind (arith, common_steps, calm_fails)

-- ---- a conversion, and a flush after it

module _ (left_old left_new a b c : Option (List ℕ)) (keeps : Keeps b c) where
  kept : (text : List ℕ) → Appends a b text → Appends a c text
  kept text wrote = Appends-kept a b c text wrote keeps

  fails_on : (p : Profile) (f : Fault) → Fails p left_old left_new a b f → Fails p left_old left_new a c f
  fails_on p _ (Fails.refused f known) = Fails.refused f (IfSome_then left_old known (λ s known. (known.0, (known.1.0, kept _ known.1.1))))
  fails_on p _ (Fails.unread u consumed few reads) = Fails.unread u consumed few (record { passes = reads.passes; appended = kept _ reads.appended })
  fails_on p _ (Fails.unwritten tokens at decides stops) =
      Fails.unwritten tokens at decides (record {
        front = stops.front;
        token = stops.token;
        rest = stops.rest;
        cut = stops.cut;
        place = stops.place;
        passes = stops.passes;
        text = stops.text;
        due_for = stops.due_for;
        count = stops.count;
        least = stops.least;
        short = stops.short;
        appended = kept _ stops.appended;
      })
  fails_on p _ (Fails.too_long u rest consumed long more reads) =
      Fails.too_long u rest consumed long more (record { passes = reads.passes; appended = kept _ reads.appended })

  pub converts_on : (p : Profile) (r : Result Totals Fault)
      → AfterConversion false p left_old left_new r a b → AfterConversion false p left_old left_new r a c
  converts_on p r converts = grind (arith, common_steps, fails_on)

  -- the same of a list
  stops_on : (stopped : Stopped) → ListStops left_old left_new a b stopped → ListStops left_old left_new a c stopped
  stops_on _ (ListStops.refused f known) =
      ListStops.refused f (IfSome_then left_old known (λ s known. (known.0, record { fault = known.1.fault; written = kept _ known.1.written })))
  stops_on _ (ListStops.unread u consumed few listed) = ListStops.unread u consumed few (record { passes = listed.passes; written = kept _ listed.written })
  stops_on _ (ListStops.too_long u rest consumed long more listed) =
      ListStops.too_long u rest consumed long more (record { passes = listed.passes; written = kept _ listed.written })
  stops_on _ (ListStops.unwritten tokens decides cut) =
      ListStops.unwritten tokens decides (record { count = cut.count; short = cut.short; front = kept _ cut.front })

  pub lists_on : (r : Result Unit Stopped) → ListResult left_old left_new r a b → ListResult left_old left_new r a c
  lists_on r known = grind (arith, common_steps, stops_on)

-- ---- which device is to blame

pub risen : {A E : Type 0} → (r : Result A E) (old mid new : ℕ) → mid ≡ one_more old → Counts r mid new → one_more old ≤ new
risen r old mid new rose counts = grind (arith, common_steps)

-- the conversion counts what is to blame, and the flush after it takes nothing back
pub blames_of : {A E : Type 0} → (reason : Reason) (flushed : Result A E) (source out : Device) (mid : ℕ)
    → CountsDevices reason source.failures source.failures_after out.failures mid
    → Counts flushed mid out.failures_after → Blames reason source out
blames_of reason flushed source out mid devices counts = grind (arith, common_steps, risen)

-- the same of a conversion to a sink that never fails
pub silent_blames : (reason : Reason) (source out : Device)
    → CountsDevices reason source.failures source.failures_after 0 0 → Blames reason source out
silent_blames reason source out devices = grind (arith, common_steps)

-- ---- what a flush leaves in the buffer

-- nothing is left after a flush that did well, and one that failed raises the count
pub flushed_after : {A E : Type 0} → (r : Result A E) (old mid new : ℕ) (Empty P : Type 0)
    → CountsOneAtMost old mid → Counts r mid new
    → OnOk r Empty → (is_ok r ≡ false → P) → Empty ⊎ ((one_more old ≤ new) × P)
flushed_after r old mid new Empty P before counts empty ill = grind (arith, common_steps)

-- a conversion that reports a fault counts one failure of its sink at most
pub counted_once : (reason : Reason) (source_old source_new old mid : ℕ)
    → CountsDevices reason source_old source_new old mid → CountsOneAtMost old mid
counted_once reason source_old source_new old mid devices = grind (arith, common_steps)

-- the same of a run that says whether all was written
pub flushed_well : (is_written : Bool) (old new status : ℕ) (Empty : Type 0) → status ≡ (if is_written then 0 else 1)
    → Empty ⊎ ((one_more old ≤ new) × (is_written ≡ false))
    → Empty ⊎ ((one_more old ≤ new) × (status ≡ 1))
flushed_well is_written old new status Empty is h = grind (arith, common_steps)

-- ---- where no device fails

pub longer : (s : List ℕ) (left_new : Option (List ℕ)) (u rest : List ℕ)
    → Consumes (Some s) left_new (u ++ rest) → length u ≡ 2 ^ 62 → 0 < length rest → length s ≤ 2 ^ 62 → ⊥
longer s left_new u rest consumed long more short = grind (arith, common_steps, length-append)

-- a run without a fault, and its status if it has written all
pub concludes_by_verdict : (v : Verdict) (source out err : Device) (code : ℕ) (c : Counted)
    → v ≡ totals c → IsCalm out → Concludes source out err code → (code ≡ status_of v) × TellsVerdict err v
concludes_by_verdict v source out err code c is calm ends = grind (arith, common_steps, calm_fails, status_of)

-- a run with a fault
pub refuses_by_verdict : (v : Verdict) (err : Device) (code : ℕ) (f : Fault) → v ≡ refused f → code ≡ 1 → Tells err (line (line_of f))
    → (code ≡ status_of v) × TellsVerdict err v
refuses_by_verdict v err code f is ends told = (ends ∙ sym (ap status_of is), subst (TellsVerdict err) (sym is) told)

-- ---- a list

pub list_blames : (reason : Reason) (source out : Device)
    → CountsReadFault reason source.failures source.failures_after → Blames reason source out
list_blames reason source out counts = grind (arith, common_steps)

-- a verdict by the fault that was found
verdict_is : (r : Read) (o : Option Fault) → r.fault ≡ o → verdict_of r ≡ verdict_of (record r { fault = o })
verdict_is r o is = ap (λ o. verdict_of (record r { fault = o })) is

-- ---- any run

module _ (s : List ℕ) (source out : Device) (smooth : IsSmooth s source out) where
  -- a fault that no device is to blame for is the text's own
  own_fault : (p : Profile) (a b : Option (List ℕ)) (f : Fault) → Fails p source.before source.after a b f → Blames f.reason source out
      → IsConverted p s (refused f) a b
  own_fault p a b _ (Fails.refused f known) blames = (rw smooth.gives at known).1
  own_fault p a b _ (Fails.unread u consumed few reads) blames = absurd (calm_fails source smooth.reads blames)
  own_fault p a b _ (Fails.unwritten tokens at decides stops) blames = absurd (calm_fails out smooth.writes blames)
  own_fault p a b _ (Fails.too_long u rest consumed long more reads) blames = grind (arith, common_steps, longer)

  module _ (err : Device) (code : ℕ) where
    job_answers : (job : Job) (answer : Result Totals Fault) → Works job answer source out
        → Ends answer source out err code → Answers job s out err code
    job_answers (exporting mode) (Ok t) works ends = grind (arith, common_steps, concludes_by_verdict)
    job_answers (exporting mode) (Err f) works ends = grind (arith, common_steps, own_fault, profile_of, refuses_by_verdict)
    job_answers checking (Ok t) works ends = grind (arith, common_steps, concludes_by_verdict)
    job_answers checking (Err f) works ends = grind (arith, common_steps, own_fault, profile_of, refuses_by_verdict)
    job_answers listing answer works ends = absurd works

    stopped_answers : (stopped : Stopped) → ListStops source.before source.after out.before out.after stopped
        → EndsList (Err stopped) source out err code → Answers listing s out err code
    stopped_answers _ (ListStops.refused f known) ends = grind (arith, common_steps, refuses_by_verdict, verdict_is, read, list_profile, tokens_of)
    stopped_answers _ (ListStops.unread u consumed few listed) ends = absurd (calm_fails source smooth.reads ends.blames)
    stopped_answers _ (ListStops.too_long u rest consumed long more listed) ends = grind (arith, common_steps, longer)
    stopped_answers _ (ListStops.unwritten tokens decides cut) ends = absurd (calm_fails out smooth.writes ends.failed)

    list_answers : (answer : Result Unit Stopped) → ListResult source.before source.after answer out.before out.after
        → EndsList answer source out err code → Answers listing s out err code
    list_answers answer works ends = grind (arith, common_steps, concludes_by_verdict, verdict_is, stopped_answers)

    pub runs_answers : (job : Job) (unflushed : Option (List ℕ)) → Runs job source out unflushed err code → Answers job s out err code
    runs_answers (exporting mode) unflushed runs = job_answers (exporting mode) runs.answer runs.works runs.ends
    runs_answers checking unflushed runs = job_answers checking runs.answer runs.works runs.ends
    runs_answers listing unflushed runs = list_answers runs.answer runs.lists runs.ends
