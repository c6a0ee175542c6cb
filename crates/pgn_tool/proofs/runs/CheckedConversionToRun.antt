-- What follows of a run from the conversion in it, of an input that is read twice.
use Rattle.pgn_tool.proofs.Words.{◌≡◌, ℕ, ◌≤◌, List, Option, ◌⊎◌, arith, Result, Ok, Err, Keeps, Counts, Device, IsStill, Mode, Reason, Fault, Totals, Profile, refused, AreConverted, TwoReadingsConvert, CountsThree, FirstStops, SecondStops, TwoReadingsFail, HasTaken, OneFails, WriteStops, first_too_long, first_unread, second_too_long, second_unread, unwritten, EqualReadings, HasFailed, IsCalm, IsSmooth, status_of, AnswersSame, AnswersTwice, BlamesTwice, EndsTwice, RunsTwice, profile_twice, Appends-kept, IfSome_then, common_steps, rules}
use Rattle.pgn_tool.proofs.runs.ConversionToRun.{CountsOneAtMost, calm_fails, concludes_by_verdict, longer, refuses_by_verdict, risen}

-- ---- a conversion, and a flush after it

-- d is the sink after the conversion, and e after the flush
module _ (p : Profile) (first second d : Device) (after : Option (List ℕ)) (failures_after : ℕ) (keeps : Keeps d.after after) where
  abbrev e : Device
  e = record { before = d.before; after = after; failures = d.failures; failures_after = failures_after }

  taken_on : (text : List ℕ) → HasTaken d text → HasTaken e text
  taken_on text taken = Appends-kept d.before d.after after text taken keeps

  first_on : (u : List ℕ) → FirstStops p u second d → FirstStops p u second e
  first_on u ends = grind (arith, common_steps, taken_on)

  second_on : (u : List ℕ) → SecondStops p first u d → SecondStops p first u e
  second_on u ends = search (rules, taken_on)

  stops_on : (at : ℕ) (r : List ℕ) → WriteStops p first r at d → WriteStops p first r at e
  stops_on at r known = search (rules, taken_on)

  fails_on : (f : Fault) → TwoReadingsFail p first second d f → TwoReadingsFail p first second e f
  fails_on _ (TwoReadingsFail.refused f known) = TwoReadingsFail.refused f
      (IfSome_then first.before known (λ s known. IfSome_then second.before known (λ r known. (known.0, (known.1.0, taken_on _ known.1.1)))))
  fails_on _ (first_unread u consumed few failed ends) = first_unread u consumed few failed (first_on u ends)
  fails_on _ (first_too_long u rest consumed long more ends) = first_too_long u rest consumed long more (first_on u ends)
  fails_on _ (second_unread u consumed few failed ends) = second_unread u consumed few failed (second_on u ends)
  fails_on _ (second_too_long u rest consumed long more ends) = second_too_long u rest consumed long more (second_on u ends)
  fails_on _ (unwritten at known) = unwritten at (IfSome_then second.before known (stops_on at))

  pub converts_twice_on : (r : Result Totals Fault) → TwoReadingsConvert p first second d r → TwoReadingsConvert p first second e r
  converts_twice_on (Ok t) converts =
      IfSome_then first.before converts (λ s known.
      IfSome_then second.before known (λ r known. record {
        short = known.short;
        us = known.us;
        second_shown = known.second_shown;
        no_marker_left = known.no_marker_left;
        converted = (known.converted.0, taken_on _ known.converted.1);
        probes = known.probes;
      }))
  converts_twice_on (Err f) converts = fails_on f converts

-- ---- which device is to blame

one_failed : (first second : Device) → OneFails first second → HasFailed first ⊎ HasFailed second
one_failed first second h = grind (arith, common_steps)

-- the conversion counts what is to blame, and the flush after it takes nothing back
pub blames_twice_of : {A E : Type 0}
    → (reason : Reason) (flushed : Result A E) (first second d : Device) (after : Option (List ℕ)) (failures_after : ℕ)
    → CountsThree reason first second d → Counts flushed d.failures_after failures_after
    → BlamesTwice reason first second (record { before = d.before; after = after; failures = d.failures; failures_after = failures_after })
blames_twice_of reason flushed first second d after failures_after devices counts = grind (arith, common_steps, one_failed, risen)

-- it counts one failure of its sink at most
pub counted_once_of_two : (reason : Reason) (first second sink : Device)
    → CountsThree reason first second sink → CountsOneAtMost sink.failures sink.failures_after
counted_once_of_two reason first second sink devices = grind (arith, common_steps)

-- ---- where no device fails

neither_failed : (first second : Device) → IsCalm first → IsCalm second → HasFailed first ⊎ HasFailed second → ⊥
neither_failed first second one other h = grind (arith, common_steps, calm_fails)

module _ (s r : List ℕ) (first second out : Device) (one : IsSmooth s first out) (other : IsSmooth r second out) where
  -- a fault that no device is to blame for is the texts' own
  own_fault : (p : Profile) (f : Fault) → TwoReadingsFail p first second out f
      → BlamesTwice f.reason first second out → AreConverted p s r (refused f) out
  own_fault p _ (TwoReadingsFail.refused f known) blames = (rw (one.gives, other.gives) at known).1
  own_fault p _ (first_unread u consumed few failed ends) blames = absurd (neither_failed first second one.reads other.reads blames)
  own_fault p _ (first_too_long u rest consumed long more ends) blames = grind (arith, common_steps, longer)
  own_fault p _ (second_unread u consumed few failed ends) blames = absurd (neither_failed first second one.reads other.reads blames)
  own_fault p _ (second_too_long u rest consumed long more ends) blames = grind (arith, common_steps, longer)
  own_fault p _ (unwritten at known) blames = absurd (calm_fails out one.writes blames)

  texts_answer : (mode : Mode) (err : Device) (code : ℕ) (answer : Result Totals Fault)
      → TwoReadingsConvert (profile_twice mode) first second out answer
      → EndsTwice answer first second out err code → AnswersTwice mode s r out err code
  texts_answer mode err code answer works ends = grind (arith, common_steps, concludes_by_verdict, own_fault, refuses_by_verdict)

  pub twice_answers : (mode : Mode) (unflushed : Option (List ℕ)) (err : Device) (code : ℕ)
      → RunsTwice mode first second out unflushed err code → AnswersTwice mode s r out err code
  twice_answers mode unflushed err code runs = texts_answer mode err code runs.answer runs.works runs.ends

-- two readings of one text are one reading of it
pub same_answers : (mode : Mode) (s : List ℕ) (out err : Device) (code : ℕ)
    → EqualReadings → AnswersTwice mode s s out err code → AnswersSame mode s out err code
same_answers mode s out err code law answers = grind (arith, common_steps, profile_twice, status_of)

-- ---- the status

-- it is 1 at most, and 0 only if no device failed
ends_as : (answer : Result Totals Fault) (first second out err : Device) (code : ℕ) → EndsTwice answer first second out err code
    → (code ≤ 1) × (code ≡ 0 → IsStill first × IsStill second × IsStill out)
ends_as answer first second out err code ends = grind (arith, common_steps)

pub twice_ends : (mode : Mode) (first second out : Device) (unflushed : Option (List ℕ)) (err : Device) (code : ℕ)
    → RunsTwice mode first second out unflushed err code
    → (code ≤ 1) × (code ≡ 0 → IsStill first × IsStill second × IsStill out)
twice_ends mode first second out unflushed err code runs = ends_as runs.answer first second out err code runs.ends
