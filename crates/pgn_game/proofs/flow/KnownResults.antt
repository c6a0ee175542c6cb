-- What a missing Result is for a reader that writes, and the marker that its game has to end with.
use Rattle.pgn_game.specs.declared.marker.PlacedMarker.{PlacedMarker}
use Rattle.pgn_game.proofs.Words.{Profile, Missing, Token, Game, counts_as, ◌≡◌, ◌&&◌, ◌==◌, ℕ, Bool, true, false, not, bytes_eq, bytes_eq-Decides, and_parts, not-false, List, [], ◌∷◌, ◌++◌, Option, None, sym, append_assoc, append-nil, Appends-nil, Appends-trans, Converter, HasRead, Gains, GameState, IsKnown, as_written, announced_result, known_result, GainsAs, due_as, part_after, read, refusal, next, whole, gain, game_text, rules, arith, common_steps}
use Rattle.pgn_game.specs.steps.Flow.{KnowsResult, Since, Start, profile_written}
use Rattle.pgn_game.specs.steps.GameState.{expected_by, expected_of, is_unexpected}
use Rattle.pgn_game.proofs.stepping.NextGrows.{next_is}
use Rattle.pgn_game.proofs.stepping.OneMoreToken.{read-passes, text_of-snoc, torn-none}
use Rattle.pgn_game.proofs.twice.MarkerCounts.{same_game_text}

-- where a missing Result counts as a text, that is written, and no marker is expected
known_is : (missing : Missing) (announced : Option PlacedMarker) → missing ≡ counts_as (known_result missing) → counts_as (announced_result missing announced) ≡ missing
known_is missing announced known = search rules

none_expected : (missing : Missing) (announced : Option PlacedMarker) → missing ≡ counts_as (known_result missing) → expected_by false missing announced ≡ None
none_expected missing announced known = search rules

pub written_known : (p : Profile) (r : GameState) → IsKnown p → r.profile ≡ p → as_written r ≡ p
written_known p r known is = grind (arith, common_steps, known_is)

-- what it writes by
pub written_so : (expected : Option PlacedMarker) (p : Profile) (r : GameState) → r.profile ≡ p → KnowsResult expected p r → as_written r ≡ profile_written p expected
written_so expected p r profile h1 = search (rules, written_known)

-- and the marker that is expected
expected_in : (expected : Option PlacedMarker) (p : Profile) (r : GameState) → r.profile ≡ p → KnowsResult expected p r
    → expected_by false r.profile.missing_result r.writing.announced ≡ expected
expected_in expected p r profile h1 = search (rules, none_expected)

pub expected_so : (expected : Option PlacedMarker) (p : Profile) (r : GameState) → r.writing.is_silent ≡ false → r.profile ≡ p → KnowsResult expected p r
    → expected_of r ≡ expected
expected_so expected p r writes profile known = rw writes (expected_in expected p r profile known)

-- a silent reader expects none
silent_expects : (silent : Bool) (missing : Missing) (announced : Option PlacedMarker) (text : List ℕ) (at : ℕ)
    → is_unexpected (expected_by silent missing announced) text at ≡ true → silent ≡ false
silent_expects silent missing announced text at other = search rules

pub writes_if_expected : (r : GameState) (text : List ℕ) (at : ℕ) → is_unexpected (expected_of r) text at ≡ true → r.writing.is_silent ≡ false
writes_if_expected r text at other = silent_expects r.writing.is_silent r.profile.missing_result r.writing.announced text at other

-- the marker that was announced is the one that was expected
marker_same : (text expected : List ℕ) (at place : ℕ) → not (bytes_eq text expected && (at == place)) ≡ false → text ≡ expected
marker_same text expected at place same = grind (arith, common_steps, bytes_eq-Decides, and_parts, not-false)

-- a game that it ends has the same text
pub same_text : (expected : Option PlacedMarker) (p : Profile) (r : GameState) (g : Game) (at : ℕ) → KnowsResult expected p r
    → is_unexpected expected g.marker at ≡ false → game_text (profile_written p expected) g ≡ game_text p g
same_text expected p r g at h1 same = search (rules, marker_same, same_game_text)

-- what is due where a token finishes a game
pub due_game : (w p : Profile) (given : List Token) (t : Token) (g : Game) → (read p given).fault ≡ None → refusal p (part_after p given) t.kind ≡ None
    → next (part_after p given) t.kind ≡ whole g → game_text w g ≡ game_text p g
    → due_as w p (given ++ t ∷ []) ≡ due_as w p given ++ gain w (part_after p given) t.kind
due_game w p given t g passes free leads same = search (rules, read-passes, torn-none, append-nil, text_of-snoc, next_is, append_assoc)

pub gains_as_more : {w p : Profile} {x y z : List Token} {a b c : Option (List ℕ)} → GainsAs w p x y a b → GainsAs w p y z b c → GainsAs w p x z a c
gains_as_more first more = search (rules, Appends-trans, append_assoc)

-- nothing was gained yet
none_gained : (w p : Profile) (given : List Token) (o : Option (List ℕ)) → GainsAs w p given given o o
none_gained w p given o = record { text = []; due_for = sym (append-nil (due_as w p given)); appended = Appends-nil o }

-- where a call begins
pub since_start : (start : Start) (c : Converter) → HasRead start.profile c start.given
    → (c.reading.writing.is_silent ≡ false → KnowsResult start.expected start.profile c.reading) → Since start c start.given start.before
since_start start c has_read known = search (rules, append-nil, none_gained)

-- without an announced marker what was gained is what is due
pub plain_gains : (p : Profile) (expected : Option PlacedMarker) (given tokens : List Token) (a c : Option (List ℕ)) → expected ≡ None
    → GainsAs (profile_written p expected) p given tokens a c → Gains p given tokens a c
plain_gains p expected given tokens a c plain gains = search rules
