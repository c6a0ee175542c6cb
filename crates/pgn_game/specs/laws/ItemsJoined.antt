-- **Definition**: the laws that join the calls of `Items::next`.
-- Letters: p is the profile, s a text, f a fault, ts and us are tokens, i items. u are the bytes
-- that the source has given, and `rest` those that it has left. `given` is what was given so far.
use Rattle.std.specs.Prelude.{◌≡◌, ℕ, ◌^◌, ◌≤◌, ◌⊎◌, List, ◌++◌, length, Option, None, Some}
use Rattle.pgn_layout.specs.Device.{Device, one_more}
use Rattle.pgn_lexer.specs.Tokens.{Token}
use Rattle.pgn_lexer.specs.TokensOf.{tokens_of}
use Rattle.pgn_game.specs.declared.reason.Fault.{Fault}
use Rattle.pgn_game.specs.declared.reason.Reason.TheVariants.{ReadFault}
use Rattle.pgn_game.specs.games.Profile.{Profile}
use Rattle.pgn_game.specs.games.Progress.{position_at_fault, read}
use Rattle.pgn_game.specs.public.Given.{Given, given_of}
use Rattle.pgn_game.specs.public.ItemsCalls.{GivesFault, GivesNoItem, HaveGiven, Items, given_next, refused_items_position}

-- all that is given of the text s
abbrev pub all_given : Profile → List ℕ → List Given
all_given p s = given_of (read p (tokens_of s)).progress

-- all begins with front
abbrev pub IsFront : (front all : List Given) → Type 0
IsFront front all = (more : List Given) × (all ≡ front ++ more)

-- With more tokens more is given: nothing is taken back.
abbrev pub GivenGrows : Type 0
GivenGrows = (p : Profile) (ts us : List Token)
    → IsFront (given_of (read p ts).progress) (given_of (read p (ts ++ us)).progress)

-- What was given of a text, with the item that is given next, is the front of all that is given of
-- it.
abbrev pub GivenIsFront : Type 0
GivenIsFront =
    (p : Profile) (u rest : List ℕ) (i : Items) (given : List Given) → HaveGiven p (Some rest) u i given
    → IsFront (given ++ given_next i.current) (all_given p (u ++ rest))

-- The tokens of what was given are the first ones of the text. If a marker was given last, it is
-- the last of them, and `HaveGiven.marker_ends` says that it ends where the next byte is.
abbrev pub TokensAreFirst : Type 0
TokensAreFirst =
    (p : Profile) (u rest : List ℕ) (i : Items) (given : List Given) (have : HaveGiven p (Some rest) u i given)
    → (later : List Token) × (tokens_of (u ++ rest) ≡ have.tokens ++ later)

-- All is given of the text s, and this is its fault, if a token is rejected.
pub record GivenAll (p : Profile) (s : List ℕ) (given : List Given) (fault : Option Fault) : Type 0 where
  pub whole : all_given p s ≡ given
  pub fault_is : (read p (tokens_of s)).fault ≡ fault

-- Where no item is left, all is given of the text, and no token is rejected.
abbrev pub EndGivesAll : Type 0
EndGivesAll =
    (p : Profile) (u rest : List ℕ) (given : List Given) (left_new : Option (List ℕ)) (new : Items)
    → GivesNoItem p u given (Some rest) left_new new
    → (length (u ++ rest) ≤ 2 ^ 62) × GivenAll p (u ++ rest) given None

-- All bytes of the text are used then.
abbrev pub EndUsesAll : Type 0
EndUsesAll =
    (p : Profile) (u rest : List ℕ) (given : List Given) (left_new : Option (List ℕ)) (new : Items)
    → GivesNoItem p u given (Some rest) left_new new → new.lexer.count ≡ length (u ++ rest)

-- a read failed, which the source has counted
pub record ReadHasFailed (source : Device) (f : Fault) : Type 0 where
  pub reason : f.reason ≡ ReadFault
  pub counted : source.failures_after ≡ one_more source.failures

-- A fault in a text of at most 2^62 bytes is its own, unless a read failed, and all is given before
-- it.
abbrev pub FaultGivesAll : Type 0
FaultGivesAll =
    (p : Profile) (u rest : List ℕ) (given : List Given) (source : Device) (new : Items) (f : Fault)
    → source.before ≡ Some rest → length (u ++ rest) ≤ 2 ^ 62 → GivesFault p u given source new f
    → ReadHasFailed source f ⊎ GivenAll p (u ++ rest) given (Some f)

-- If such a fault is about a move, the items keep the position in which it was rejected.
abbrev pub FaultKeepsPosition : Type 0
FaultKeepsPosition =
    (p : Profile) (u rest : List ℕ) (given : List Given) (source : Device) (new : Items) (f : Fault)
    → source.before ≡ Some rest → length (u ++ rest) ≤ 2 ^ 62 → GivesFault p u given source new f
    → ReadHasFailed source f ⊎ (refused_items_position new ≡ position_at_fault (read p (tokens_of (u ++ rest))))
