-- What putting a marker comes to, and a token of movetext whose section cannot be written.
use Rattle.pgn_game.proofs.Words.{◌≡◌, ℕ, List, [], ◌∷◌, ◌++◌, length, Option, refl, ap, subst, ◌∙◌, append_assoc, arith, IsTrue, Ok, Err, All, lit<, lit≤, drop-append_seam, Appends-trans, Appends, AppendsFront, Device, one_more, IsToken, lines_of, last_line, Put, EndGame, text_at, line_at, Finished, Marker, marker_text, Mode, Between, AfterTags, InMovetext, Profile, counting, Pair, Item, Part, Level as ModelLevel, Levels as ModelLevels, start_of, outermost, last_position, tokens_out, Next, whole, GameState, IsBehind, failures_seen, seen, Bool, true, false, as_written, IsOpen, game_of, may_have_movetext, BeginsText, PutResult, gain_to, section_due, section_due_of, common_steps, rules}
use Rattle.pgn_layout.specs.declared.sink.WriteFault.{WriteFault}
use Rattle.pgn_game.specs.declared.reason.Reason.TheVariants as reasons
use Rattle.pgn_layout.proofs.OneWriteMore.{front_of_more, front_after}
use Rattle.pgn_game.proofs.putting.ItemToMovetext.{from_to}
use Rattle.pgn_game.proofs.putting.ItemsAppended.{game_ends}
use Rattle.pgn_game.proofs.putting.ItemToReader.{gain_at, keeps_begun, open_stage, plies_before, section_is, unwritten}
use Rattle.pgn_game.proofs.refusals.RefusalsInMovetext.{depth_is, position_is}

-- what a marker and the end of the game write behind a line
abbrev pub ending : List ℕ → List ℕ → List ℕ
ending line marker = text_at line (Put marker) ++ text_at (line_at line (Put marker)) EndGame

abbrev last_line_of : Mode → List Pair → List Item → List ℕ
last_line_of mode ps items = last_line (lines_of (tokens_out mode (start_of ps) items))

gain_of : (p : Profile) (result : List ℕ) (part : Part) (marker : List ℕ)
    → IsTrue (may_have_movetext part.stage) → (part.stage ≡ AfterTags → part.items ≡ [])
    → All IsToken (tokens_out p.mode (start_of part.pairs) part.items) → IsToken marker
    → gain_to (counting p result) part (whole (game_of part marker))
    ≡ section_due part.stage p.mode result part.pairs ++ ending (last_line_of p.mode part.pairs part.items) marker
gain_of p result part marker at fresh each token = search (rules, append_assoc, gain_at, game_ends, drop-append_seam)

-- what is due for a marker, of a reader that holds the part
due_is : (old : GameState) (part : Part) (marker : List ℕ) → old.writing.is_silent ≡ false
    → IsTrue (may_have_movetext old.stage) → IsToken marker → IsOpen old part
    → section_due_of old ++ ending old.line marker ≡ gain_to (as_written old) part (whole (game_of part marker))
due_is old part marker writes at token is = grind (arith, common_steps, section_is, gain_of, open_stage)

-- At depth 0 the moves that lead here are those outside variations.
at_depth_0 : (ls : ModelLevels) (around : List ModelLevel) → ls.around ≡ around
    → length around ≡ 0 → (outermost ls.current ls.around).trail ≡ ls.current.trail
at_depth_0 ls [] e n = ap (λ (l : List ModelLevel). (outermost ls.current l).trail) e
at_depth_0 ls (l ∷ around) e n = absurd (omega (arith, n))

last_is : (old : GameState) (part : Part) → old.text.levels.around ≡ [] → IsOpen old part
    → (marker : List ℕ) → old.text.levels.current.position ≡ last_position (game_of part marker)
last_is old part outside is marker = grind (arith, common_steps, depth_is, position_is, at_depth_0)

abbrev pub finished_reader : (line marker : List ℕ) → GameState → GameState
finished_reader line marker r =
    record r { stage = Between; text = record r.text { is_after_move = false }; line = line; marker = marker }

behind : (old : GameState) (part : Part) (line marker : List ℕ) → line ≡ [] → old.text.levels.around ≡ []
    → IsOpen old part → IsBehind (finished_reader line marker old) (game_of part marker)
behind old part line marker empty outside is = search (rules, last_is)

pub marker_token : (marker : Marker) → IsToken (marker_text marker)
marker_token marker = search (rules, lit<, lit≤)

-- what a marker leads to
abbrev pub to_game : Marker → Part → Next
to_game marker part = whole (game_of part (marker_text marker))

-- a write fails for no silent reader
pub writes_if_failed : (silent : Bool) (n m : ℕ) → failures_seen silent m ≡ one_more (failures_seen silent n) → silent ≡ false
writes_if_failed silent n m failed = search rules

-- The section could not be written.
pub ends_unbegun : (old new : GameState) (marker : Marker) (f : WriteFault) (d : Device) → old.writing.is_silent ≡ false
    → IsTrue (may_have_movetext old.stage)
    → BeginsText {A = Unit} old new (Err f) d → PutResult old (IsOpen old) (to_game marker) new (Err reasons.WriteFault) d
ends_unbegun old new marker f d writes at begins =
    grind (arith, common_steps, unwritten, keeps_begun, due_is, marker_token, front_of_more)

-- How the game ends, once its section is written.
pub record EndsText (old begun : GameState) (marker : Marker) (text : List ℕ) (a b : Option (List ℕ)) (n m : ℕ) : Type 0 where
  pub writes : old.writing.is_silent ≡ false
  pub begins : BeginsText {A = Unit} {E = WriteFault} old begun (Ok tt) (from_to a b n m)
  pub outside : old.text.levels.around ≡ []
  pub spells : text ≡ marker_text marker
  pub at : IsTrue (may_have_movetext old.stage)

abbrev of_line : (old begun : GameState) → begun ≡ record old { stage = InMovetext } → begun.line ≡ old.line
of_line old begun e = ap (λ (r : GameState). r.line) e

-- a game was finished, and what its marker adds was written
finishes : (old new : GameState) (marker : Marker) (line : List ℕ) (d : Device) → IsTrue (may_have_movetext old.stage)
    → old.text.levels.around ≡ [] → new ≡ finished_reader line (marker_text marker) old → d.failures_after ≡ d.failures
    → ((part : Part) → IsOpen old part → (line ≡ []) × Appends d.before d.after (gain_to (as_written old) part (to_game marker part)))
    → PutResult old (IsOpen old) (to_game marker) new (Ok Finished) d
finishes old new marker line d at outside same still gained = grind (arith, common_steps, behind, marker_text, plies_before)

module _ (old begun new : GameState) (marker : Marker) where
  pub ends_well : (text : List ℕ) (a b c : Option (List ℕ)) (n m k : ℕ) → EndsText old begun marker text a b n m
      → Appends b c (ending begun.line text)
      → new ≡ finished_reader new.line (marker_text marker) begun → new.line ≡ [] → k ≡ m → PutResult old (IsOpen old)
      (to_game marker) new (Ok Finished) (from_to a c n k)
  ends_well text a b c n m k ends put rest empty counted =
      finishes old new marker [] (from_to a c n k) ends.at ends.outside
      (rest ∙ ap (λ (l : List ℕ). finished_reader l (marker_text marker) begun) empty
      ∙ ap (finished_reader [] (marker_text marker)) ends.begins.begun) (counted ∙ ends.begins.counted) (λ part is. (
        refl,
        subst (Appends a c) (ap (λ (l : List ℕ). section_due_of old ++ ending l (marker_text marker)) (of_line old begun ends.begins.begun)
            ∙ due_is old part (marker_text marker) ends.writes ends.at (marker_token marker) is)
            (Appends-trans a b c _ _ ends.begins.text
            (subst (λ (t : List ℕ). Appends b c (ending begun.line t)) ends.spells put)),
      ))

  -- nothing is written of a silent reader's game
  pub ends_silent : (a b : Option (List ℕ)) (n m : ℕ) → old.writing.is_silent ≡ true → IsTrue (may_have_movetext old.stage)
      → old.text.levels.around ≡ [] → BeginsText {A = Unit} {E = WriteFault} old begun (Ok tt) (seen old.writing.is_silent (from_to a b n m))
      → new ≡ finished_reader begun.line (marker_text marker) begun → PutResult old (IsOpen old) (to_game marker) new (Ok Finished)
      (seen old.writing.is_silent (from_to a b n m))
  ends_silent a b n m silent at outside begins rest =
      finishes old new marker old.line (seen old.writing.is_silent (from_to a b n m)) at outside
      (rest ∙ ap (λ (r : GameState). finished_reader r.line (marker_text marker) r) begins.begun) begins.counted
      (λ part is. (rw silent at is.held.held, rw silent tt))

  -- a write failed behind the section
  pub ends_ill : (text : List ℕ) (a b c : Option (List ℕ)) (n m k : ℕ) → EndsText old begun marker text a b n m
      → AppendsFront b c (ending begun.line text) → new ≡ finished_reader new.line (marker_text marker) begun → k ≡ one_more m → PutResult old (IsOpen old)
      (to_game marker) new (Err reasons.WriteFault) (from_to a c n k)
  ends_ill text a b c n m k ends front rest counted =
      let begins = ends.begins in
      unwritten old new (IsOpen old) (to_game marker) (from_to a c n k)
      (record {
        profile = ap (λ (r : GameState). r.profile) rest ∙ begins.profile;
        writing = ap (λ (r : GameState). r.writing) rest ∙ begins.writing;
        plies = search rules;
        probes = omega (arith, ap (λ (r : GameState). r.most_probes) rest, begins.probes);
      })
      (counted ∙ ap one_more begins.counted) (λ part is.
      subst (AppendsFront a c) (ap (λ (l : List ℕ). section_due_of old ++ ending l (marker_text marker)) (of_line old begun begins.begun)
      ∙ due_is old part (marker_text marker) ends.writes ends.at (marker_token marker) is)
      (front_after a b c _ _ begins.text (subst (λ (t : List ℕ). AppendsFront b c (ending begun.line t)) ends.spells front)))
