-- What was gained since a start, and how reading stopped: where the sink is seen, and where it is
-- not.
use Rattle.pgn_game.proofs.Words.{Writing, Token, Fault, Reason, WriteFault, Profile, ◌≡◌, ℕ, Bool, true, false, List, [], ◌∷◌, ◌++◌, length, Option, None, sym, ap, subst, ◌∙◌, ◌⊎◌, bytes_seen, false≢true, Gains, Converter, GameState, IsStopped, part_after, FaultAtEnd, SameGames, Stops, games_before, position_at_stop, reported_position, ProbesAtStop, FedToFault, read, rules}
use Rattle.pgn_game.specs.steps.Flow.{Known, Since, Start, StopsAt, so_far}
use Rattle.pgn_game.proofs.flow.GamesGoOn.{same_if_as_many}
use Rattle.pgn_game.proofs.stepping.AcceptedToConverter.{at_fault, at_refusal}
use Rattle.pgn_game.proofs.stepping.OneMoreToken.{due_grows, stops_more, games_still, counts_still, position_still}
use Rattle.pgn_game.proofs.flow.KnownResults.{plain_gains, written_known}

-- the sink is seen, or no bytes of it are
abbrev pub IsShown : Bool → Option (List ℕ) → Type 0
IsShown silent before = (silent ≡ false) ⊎ (before ≡ None)

-- and if none are, no write failed
abbrev pub IsStopShown : Bool → Option (List ℕ) → Reason → Type 0
IsStopShown silent before reason = (silent ≡ false) ⊎ ((before ≡ None) × (reason ≡ WriteFault → ⊥))

pub shown_if : (silent now : Bool) (bytes : Option (List ℕ)) → now ≡ silent → IsShown now (bytes_seen silent bytes)
shown_if silent now bytes same = search rules

pub stop_shown_if : (silent now : Bool) (bytes : Option (List ℕ)) (reason : Reason) → now ≡ silent → (silent ≡ true → reason ≡ WriteFault → ⊥) → IsStopShown now (bytes_seen silent bytes) reason
stop_shown_if silent now bytes reason same none = search rules

-- what an unseen sink has taken is all that is due
gains_unseen : (p : Profile) (given more tokens : List Token) (a c : Option (List ℕ)) → a ≡ None → tokens ≡ given ++ more → Gains p given tokens a c
gains_unseen p given more tokens a c unseen extends =
    let grown = due_grows p given more in search rules

pub gains_shown : (start : Start) (c : Converter) (tokens : List Token) (after : Option (List ℕ)) → start.expected ≡ None → Since start c tokens after
    → IsShown c.reading.writing.is_silent start.before → Gains start.profile start.given tokens start.before after
gains_shown start c tokens after plain since h1 = search (rules, plain_gains, gains_unseen)

-- as many games as at the start are the same
pub same_since : (start : Start) (c : Converter) (tokens : List Token) (after : Option (List ℕ)) → Since start c tokens after
    → c.games ≡ length (read start.profile start.given).progress.games → SameGames start.profile start.given tokens
same_since start c tokens after since many = search (rules, same_if_as_many)

-- How reading stopped at one of the tokens `ts`. `tokens` are those before it.
pub record StopsSince (p : Profile) (given tokens ts : List Token) (f : Fault) (reading : GameState) (before after : Option (List ℕ)) : Type 0 where
  pub stops : Stops p given ts before after f
  pub games : games_before stops ≡ (read p tokens).progress.games
  pub counts : ProbesAtStop reading.writing.is_silent stops reading.most_probes
  pub position : reported_position reading f.reason ≡ position_at_stop stops

module _ (start : Start) (text : Known) (f : Fault) (new : Converter) (after : Option (List ℕ)) (to : StopsAt start text f new after) (us : List Token)
    (plain : start.expected ≡ None) (shown : IsStopShown new.reading.writing.is_silent start.before f.reason) where
  same_silence : new.reading.writing.is_silent ≡ to.now.reading.writing.is_silent
  same_silence = ap (λ (w : Writing). w.is_silent) to.writing

  shown_before : IsStopShown new.reading.writing.is_silent start.before f.reason → IsShown to.now.reading.writing.is_silent start.before
  shown_before h1 = search (rules, same_silence)

  not_another : IsStopped to.now.reading (part_after start.profile to.tokens) to.token.kind new.reading to.mid after f.reason
  not_another = search (rules, false≢true)

  at_token : IsStopShown new.reading.writing.is_silent start.before f.reason
      → FaultAtEnd start.profile to.tokens (to.tokens ++ to.token ∷ us) (record { at = to.token.at; reason = f.reason }) new.reading to.mid after
  at_token h1 = search (rules, same_silence, at_fault, written_known, not_another, at_refusal)

  pub stops_since : StopsSince start.profile start.given to.tokens (to.tokens ++ to.token ∷ us) f new.reading start.before after
  stops_since =
      let first = gains_shown start to.now to.tokens to.mid plain to.since (shown_before shown) in
      let last = subst (λ n. FaultAtEnd start.profile to.tokens (to.tokens ++ to.token ∷ us) (record { at = n; reason = f.reason }) new.reading to.mid after)
      (sym to.place) (at_token shown) in
      record {
        stops = stops_more first last.stops;
        games = games_still first last.stops ∙ last.no_game;
        counts = counts_still first last.stops last.counts;
        position = last.position ∙ sym (position_still first last.stops);
      }

-- at a token that the bytes known decide, and no game was finished before it
pub fed_to_fault : (start : Start) (s : List ℕ) (f : Fault) (new : Converter) (c : Option (List ℕ)) → start.expected ≡ None → new.games ≡ length (read start.profile start.given).progress.games
    → IsStopShown new.reading.writing.is_silent start.before f.reason → StopsAt start (so_far s) f new c → FedToFault start.profile s start.given f new.reading start.before c
fed_to_fault start s f new c plain same shown to =
    let stops = stops_since start (so_far s) f new c to [] plain shown in
    record {
      fed = record { tokens = to.tokens ++ to.token ∷ []; next = to.next; stops = stops.stops };
      no_game = stops.games ∙ same_since start to.now to.tokens to.mid to.since (sym to.games ∙ same);
      counts = stops.counts;
      position = stops.position;
    }
