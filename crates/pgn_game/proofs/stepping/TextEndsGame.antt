-- A game that the end of a text finishes: its marker is a symbol that ends with the text.
use Rattle.pgn_lexer.specs.declared.partial_token.LexMode.TheVariants as modes
use Rattle.pgn_lexer.specs.declared.partial_token.Text.TheVariants as texts
use Rattle.pgn_lexer.specs.Tokens as tokens
use Rattle.pgn_game.proofs.Words.{Token, Profile, Game, ◌≡◌, ℕ, ◌<◌, List, [], ◌∷◌, ◌++◌, length, None, refl, sym, ap, subst, ◌∙◌, inl, inr, append-nil, append_assoc, arith, EndsAt, Standing, coming, is_score, no_progress, Read, read, read_from, Converter, Stands, games_read, FinishesGame, tokens_of, RisesTo, SymbolsStandInText, TokensRise, GamesEndByMarker, LastGame, TextsEndBehindMarker, TextsEndBetweenGames, common_steps, rules}
use Rattle.pgn_game.proofs.stepping.GamesInTurn.{passes_before}
use Rattle.pgn_game.proofs.stepping.MarkersAtEnd.{score_ends}
use Rattle.pgn_game.proofs.stepping.NoneBeforeFault.{reads_behind}
use Rattle.pgn_game.proofs.refusals.RefusalsInMovetext.{score_of}
use Rattle.pgn_game.proofs.stepping.LastTokens.{AddsOne, HasLast, IsLeft, end, end_at, glyph, left_games, left_in, none, none_torn, quiet_games, symbol, token_at}

-- ---- The output of a text without a fault

has_last : (ts : List Token) → RisesTo ts → HasLast ts
has_last [] h = absurd h
has_last (t ∷ []) h = h
has_last (t ∷ u ∷ ts) h = has_last (u ∷ ts) h.2

pub between_games : TokensRise → TextsEndBetweenGames
between_games rise p u passes = search (rules, none_torn, has_last, append-nil)

-- ---- The game

module _ (stand : SymbolsStandInText) (ends : GamesEndByMarker) (p : Profile)
    (c : Converter) (u : List ℕ) (given : List Token) (stands : Stands p c u None given)
    (more : length (games_read p given) < length (games_read p (tokens_of u))) where
  abbrev l : Standing
  l = c.lexer

  left_over : tokens_of u ≡ given ++ coming l []
  left_over = ap tokens_of (sym (append-nil u)) ∙ stands.lexer.tokens [] tt

  reads : read p (tokens_of u) ≡ read_from p (read p given).progress (coming l [])
  reads = ap (read p) left_over ∙ reads_behind p no_progress given (coming l []) stands.has_read.passes

  -- a token that is left before the end finishes a game
  record Finished (t : Token) : Type 0 where
    game : FinishesGame p given t
    passes : (read p (tokens_of u)).fault ≡ None
    same : games_read p (tokens_of u) ≡ games_read p (given ++ t ∷ [])

  finishes : (t : Token) (place : ℕ) → coming l [] ≡ t ∷ end_at place ∷ [] → Finished t
  finishes t place is = by_games (subst (AddsOne (games_read p given)) (sym reads) (left_games p (read p given).progress l))
    where
      cut : tokens_of u ≡ (given ++ t ∷ []) ++ end_at place ∷ []
      cut = left_over ∙ ap (λ ts. given ++ ts) is ∙ sym (append_assoc given (t ∷ []) (end_at place ∷ []))

      by_games : AddsOne (games_read p given) (read p (tokens_of u)) → Finished t
      by_games (inl same) = absurd (omega (arith, more, ap (length {A = Game}) same))
      by_games (inr (passes, (g, one))) =
          let before = passes_before p (given ++ t ∷ []) (end_at place ∷ []) (rw cut at passes) in
          let none_more : games_read p (tokens_of u) ≡ games_read p (given ++ t ∷ []) =
          ap (games_read p) cut ∙ ap (λ (r : Read). r.progress.games) (reads_behind p no_progress (given ++ t ∷ []) (end_at place ∷ []) before)
          ∙ quiet_games p (read p (given ++ t ∷ [])).progress (end_at place ∷ []) (end, tt) in search rules

  last : (t : Token) → coming l [] ≡ t ∷ end_at l.count ∷ [] → EndsAt t.kind t.at (length u) → LastGame p u given
  last t is ends_there =
      record {
        marker = t;
        finishes = (finishes t l.count is).game;
        passes = (finishes t l.count is).passes;
        same = (finishes t l.count is).same;
        tokens = left_over ∙ ap (λ ts. given ++ ts) is ∙ ap (λ n. given ++ t ∷ end_at n ∷ []) stands.lexer.count;
        ends = ends_there;
      }

  of_symbol : l.held.mode ≡ (modes.Text texts.Symbol)
      → coming l [] ≡ token_at l.held.at (tokens.symbol (l.held.text ++ [])) ∷ end_at l.count ∷ [] → LastGame p u given
  of_symbol mode is =
      let t : Token = token_at l.held.at (tokens.symbol (l.held.text ++ [])) in
      let finished = (finishes t l.count is).game in
      let marker = (ends p given t finished).is_marker in
      last t is (score_ends stand l u given stands.lexer mode (score_of (l.held.text ++ []) finished.game.marker (is_score (l.held.text ++ [])) refl marker).0)

  by_left : (ts : List Token) → coming l [] ≡ ts → IsLeft l.held.mode l.count l.held.at l.held.text ts → LastGame p u given
  by_left _ is (none ts q has) = grind (arith, common_steps, reads, quiet_games)
  by_left _ is (glyph n) =
      let finished = (finishes (token_at l.held.at (tokens.glyph n)) l.count is).game in
      let marker = (ends p given (token_at l.held.at (tokens.glyph n)) finished).is_marker in search rules
  by_left _ is (symbol mode) = of_symbol mode is

  last_game : LastGame p u given
  last_game = by_left (coming l []) refl (left_in l.held.mode)

pub behind_marker : SymbolsStandInText → GamesEndByMarker → TextsEndBehindMarker
behind_marker stand ends p c u given stands more = last_game stand ends p c u given stands more
