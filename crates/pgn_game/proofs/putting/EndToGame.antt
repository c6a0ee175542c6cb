-- From what a marker is judged to what its game answers, once it is written or could not be.
use Rattle.pgn_game.proofs.Words.{◌≡◌, ◌&&◌, ◌↔◌, ℕ, Bool, true, false, IsTrue, List, [], Option, Result, Ok, Err, OnOk, is_some, refl, sym, ap, subst, ◌∙◌, arith, Appends, AppendsFront, WritesText, Device, device, Kind, Marker, Reason, Stage, Between, InMovetext, Pair, GameState, GameCall, KeepsSilence, Writing, BeginsText, EndsAtMarker, RefusesMarker, FinishesAtMarker, IsOpen, ItemCall, Mode, PutResult, PutsMarker, TakesMarker, Writer, WriteFault, ending_if, game_by, is_nothing, known_of, line_behind, marker_of, marker_text, may_have_movetext, mode_of_written, section_due, section_due_of, section_unless, seen, tag_section, writing_of, Written, rules}
use Rattle.pgn_layout.specs.declared.sink.WriteFault.{WriteFault as Fault}
use Rattle.pgn_game.specs.steps.TokenTaken.{ended}
use Rattle.pgn_game.proofs.putting.MarkerToReader.{EndsText, ends_ill, ends_silent, ends_unbegun, ends_well, ending, finished_reader, to_game, writes_if_failed}
use Rattle.pgn_game.proofs.putting.SilentReader.{seen_if, unseen}
use Rattle.pgn_game.proofs.stepping.PairsTriedForToken.{marker_untried}
use Rattle.pgn_game.proofs.stepping.PutToAnswer.{entry_refused, takes_marker}

not_begun : (begun : Bool) → (IsTrue begun → ⊥) → begun ≡ false
not_begun begun no_more = search rules

-- the section is missing, unless movetext has begun
missing_is : (stage : Stage) (begun : Bool) (mode : Mode) (known : List ℕ) (ps : List Pair) → IsTrue begun ↔ (stage ≡ InMovetext)
    → section_unless begun (tag_section mode known ps) ≡ section_due stage mode known ps
missing_is stage begun mode known ps is = search (rules, not_begun)

-- a writer that is not silent has a mode
some_mode : (w : Written) (line marker : List ℕ) → is_nothing w ≡ false → ending_if (mode_of_written w) line marker ≡ ending line marker
some_mode w line marker is = search rules

some_line : (w : Written) (line : List ℕ) → is_nothing w ≡ false → line_behind (mode_of_written w) line ≡ []
some_line w line is = search rules

no_line : (w : Written) (line : List ℕ) → is_nothing w ≡ true → line_behind (mode_of_written w) line ≡ line
no_line w line is = search rules

at_marker : (k : Kind) (new : GameState) (r : Result (Unit {0}) Reason) → IsTrue (is_some (marker_of k)) → OnOk r (new.stage ≡ Between)
    → FinishesAtMarker k new (ended r)
at_marker k new r is at = search rules

-- A row of the table rejects the marker.
pub marker_refused : {S : Type 0} {taken : S → Option (List ℕ)} {failures : S → ℕ} {a : S} (w : Writer) (old new : GameState) (marker : Marker)
    (reason : Reason) → RefusesMarker old marker new reason
    → GameCall taken failures (game_by w old) (game_by w new) a a (TakesMarker (game_by w old) marker (game_by w new) (Err reason))
marker_refused {taken} {failures} {a} w old new marker reason h =
    subst (λ (r : GameState). GameCall taken failures (game_by w old) (game_by w r) a a (TakesMarker (game_by w old) marker (game_by w r) (Err reason)))
    (sym h.same)
    (record {
      takes = record {
        takes = λ k is. entry_refused (game_by w old) k reason _ _ h.inside (λ part. h.why w k part is) (λ part. marker_untried part k (ap is_some is));
        keeps = record { profile = refl; writing = refl; plies = omega arith; probes = omega arith };
        between = tt;
        counted = rw h.inside;
      };
      silent = record { silent = refl; untouched = λ silent. refl };
    })

-- The marker ends the game.
module _ {S : Type 0} (taken : S → Option (List ℕ)) (failures : S → ℕ) (w begun_w : Writer) (old judge : GameState) (marker : Marker)
    (h : EndsAtMarker old marker judge) (at : IsTrue (may_have_movetext old.stage)) (begun : Bool) (is : IsTrue begun ↔ (old.stage ≡ InMovetext)) (a b : S) where
  abbrev game : GameState
  game = game_by w old

  abbrev first : Device
  first = seen (is_nothing w.written) (device taken failures a b)

  -- the section is that of the game before
  section_is : section_unless begun (tag_section judge.profile.mode (known_of (game_by w judge)) judge.tags.held) ≡ section_due_of game
  section_is = search (rules, missing_is)

  answers : (new : GameState) (d : Device) (r : Result (Unit {0}) Reason) → new.most_probes ≡ old.most_probes → OnOk r (new.stage ≡ Between)
      → PutResult game (IsOpen game) (to_game marker) new (ended r) d → TakesMarker game marker new r d
  answers new d r most between put = record {
    takes = λ k kind. takes_marker game new k marker (ended r) d put (at_marker k new r (ap is_some kind) between) most kind (λ part op. h.free w k part kind op);
    keeps = put.keeps;
    between = between;
    counted = put.counted;
  }

  module _ (writer : begun_w ≡ record w { is_after_move = begun && w.is_after_move }) where
    pub unbegun_marker : (f : Fault)
        → ItemCall w.written taken failures a b
        (λ by d. WritesText {A = Unit {0}} d (Err f) (section_unless begun (tag_section judge.profile.mode (known_of (game_by w judge)) judge.tags.held)))
        → GameCall taken failures game (game_by begun_w judge) a b (TakesMarker game marker (game_by begun_w judge) (Err WriteFault))
    unbegun_marker f section =
        let new = game_by begun_w judge in
        let how : new.writing ≡ game.writing = ap writing_of writer in
        let begins : BeginsText {A = Unit {0}} game new (Err f) first = search (rules, section_is) in
        record {
          takes = search (rules, answers, ends_unbegun, writes_if_failed);
          silent = record { silent = ap (λ (x : Writing). x.is_silent) how; untouched = section.silent };
        }

    module _ (section : ItemCall w.written taken failures a b (λ by d. WritesText {A = Unit {0}} {E = Fault} d (Ok tt)
        (section_unless begun (tag_section judge.profile.mode (known_of (game_by w judge)) judge.tags.held)))) (new_w : Writer) (c : S)
        (r : Result (Unit {0}) Fault) (put : ItemCall begun_w.written taken failures b c (λ by. PutsMarker by (marker_text marker) begun_w new_w r)) where
      abbrev goes : GameState
      goes = game_by new_w judge

      begins : BeginsText {A = Unit {0}} {E = Fault} game (record game { stage = InMovetext }) (Ok tt) first
      begins = search (rules, section_is)

      -- the marker was put by the writer before the section, but for its flag
      as_before : ItemCall w.written taken failures b c
          (λ by. PutsMarker by (marker_text marker) (record w { is_after_move = begun && w.is_after_move }) new_w r)
      as_before = subst (λ (x : Writer). ItemCall x.written taken failures b c (λ by. PutsMarker by (marker_text marker) x new_w r)) writer put

      how : goes.writing ≡ game.writing
      how = ap writing_of as_before.writes.writer

      goes_is : goes ≡ finished_reader new_w.line (marker_text marker) (record game { stage = InMovetext })
      goes_is = search (rules, how)

      most : goes.most_probes ≡ old.most_probes
      most = ap (λ (r : GameState). r.most_probes) h.after

      silence : KeepsSilence game goes a c
      silence = search (rules, how)

      -- a game that is written
      ends : is_nothing w.written ≡ false
          → EndsText game (record game { stage = InMovetext }) marker (marker_text marker) (taken a) (taken b) (failures a) (failures b)
      ends writes = search (rules, begins, unseen)

      plain_put : is_nothing w.written ≡ false
          → PutsMarker (mode_of_written w.written) (marker_text marker) (record w { is_after_move = begun && w.is_after_move }) new_w r (device taken failures b c)
      plain_put writes = search (rules, unseen)

    module _ (section : ItemCall w.written taken failures a b (λ by d. WritesText {A = Unit {0}} {E = Fault} d (Ok tt)
        (section_unless begun (tag_section judge.profile.mode (known_of (game_by w judge)) judge.tags.held)))) (new_w : Writer) (c : S) where
      pub marker_fails : (f : Fault) → ItemCall begun_w.written taken failures b c (λ by. PutsMarker {A = Unit {0}} by (marker_text marker) begun_w new_w (Err f))
          → GameCall taken failures game (game_by new_w judge) a c (TakesMarker game marker (game_by new_w judge) (Err WriteFault))
      marker_fails f put =
          let before = as_before section new_w c (Err f) put in
          let writes = writes_if_failed (is_nothing w.written) _ _ before.writes.counted in
          let plain = plain_put section new_w c (Err f) put writes in
          record {
            takes = seen_if (λ d. TakesMarker game marker (game_by new_w judge) (Err WriteFault) d) (is_nothing w.written) (device taken failures a c) writes
                (answers (game_by new_w judge) (device taken failures a c) (Err WriteFault) (most section new_w c (Err f) put) tt
                (ends_ill game (record game { stage = InMovetext }) (game_by new_w judge) marker (marker_text marker) (taken a) (taken b) (taken c)
                (failures a) (failures b) (failures c) (ends section new_w c (Err f) put writes)
                (subst (λ (t : List ℕ). AppendsFront (taken b) (taken c) t) (some_mode w.written w.line (marker_text marker) writes) plain.text)
                (goes_is section new_w c (Err f) put) plain.counted));
            silent = silence section new_w c (Err f) put;
          }

      pub marker_taken : ItemCall begun_w.written taken failures b c (λ by. PutsMarker {A = Unit {0}} {E = Fault} by (marker_text marker) begun_w new_w (Ok tt))
          → GameCall taken failures game (game_by new_w judge) a c (TakesMarker game marker (game_by new_w judge) (Ok tt))
      marker_taken put = by (is_nothing w.written) refl
        where
          goes_on : PutResult game (IsOpen game) (to_game marker) (game_by new_w judge) (ended (Ok tt)) (seen (is_nothing w.written) (device taken failures a c))
              → GameCall taken failures game (game_by new_w judge) a c (TakesMarker game marker (game_by new_w judge) (Ok tt))
          goes_on result = record {
            takes = answers (game_by new_w judge) (seen (is_nothing w.written) (device taken failures a c)) (Ok tt) (most section new_w c (Ok tt) put)
                (ap (λ (r : GameState). r.stage) h.after) result;
            silent = silence section new_w c (Ok tt) put;
          }

          by : (silent : Bool) → is_nothing w.written ≡ silent
              → GameCall taken failures game (game_by new_w judge) a c (TakesMarker game marker (game_by new_w judge) (Ok tt))
          by false writes =
              let plain = plain_put section new_w c (Ok tt) put writes in
              goes_on
              (seen_if (λ d. PutResult game (IsOpen game) (to_game marker) (game_by new_w judge) (ended (Ok tt)) d) (is_nothing w.written)
              (device taken failures a c) writes
              (ends_well game (record game { stage = InMovetext }) (game_by new_w judge) marker (marker_text marker) (taken a) (taken b) (taken c)
              (failures a) (failures b) (failures c) (ends section new_w c (Ok tt) put writes)
              (subst (λ (t : List ℕ). Appends (taken b) (taken c) t) (some_mode w.written w.line (marker_text marker) writes) plain.text)
              (goes_is section new_w c (Ok tt) put) (plain.line ∙ some_line w.written w.line writes) plain.counted))
          by true silent =
              let before = as_before section new_w c (Ok tt) put in
              let line : new_w.line ≡ w.line = before.writes.line ∙ no_line w.written w.line silent in
              let same_sink : c ≡ b = before.silent silent in
              goes_on
              (subst (λ (x : S). PutResult game (IsOpen game) (to_game marker) (game_by new_w judge) (ended (Ok tt)) (seen (is_nothing w.written) (device taken failures a x)))
              (sym same_sink)
              (ends_silent game (record game { stage = InMovetext }) (game_by new_w judge) marker (taken a) (taken b) (failures a) (failures b) silent at h.outside
              (begins section new_w c (Ok tt) put)
              (goes_is section new_w c (Ok tt) put
              ∙ ap (λ (l : List ℕ). finished_reader l (marker_text marker) (record game { stage = InMovetext })) line)))
