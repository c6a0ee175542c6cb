-- From the grammar to reading: tokens that spell games run, and finish these games.
use Rattle.pgn_game.proofs.Words.{◌≡◌, ℕ, ◌<◌, Bool, true, false, ◌&&◌, not, List, [], ◌∷◌, ◌++◌, length, nat_le, refl, sym, ap, subst, ◌∙◌, arith, append_assoc, append-nil, Option, None, Some, ◌==◌, codes, bytes_eq, unwrap_or, IsTrue, IsFalse, list_all, bytes_eq-Decides, and_parts, nat_tests, Played, Kind, Mode, TooDeep, MarkerInVariation, ResultDiffers, Stage, Between, AfterLeftBracket, AfterName, AfterTags, InMovetext, Profile, Pair, value_of, has_pair, insert_pair, Item, Game, Part, no_part, Level, Levels, levels_of, depth, here, replayed, without_last, start_of, refusal, is_comment, is_end, is_reduced, marker_of, lacks_fen, next, going, whole, AreDropped, SpellsPair, pair, SpellsPairs, no_pair, next_pair, IsPair, by_name, IsSetUp, Names, new_level, SpellsText, no_more, token, move, variation, BeginsBare, IsResult, SpellsGame, SpellsGames, no_game, next_game, rules, none-some}
use Rattle.pgn_lexer.specs.Tokens as tokens
use Rattle.pgn_game.specs.games.Game as games
use Rattle.pgn_game.proofs.reading.RunsToEnd.{at, Runs, ends, goes, finishes}
use Rattle.pgn_game.proofs.refusals.RefusalsByStage.{pass, drops_comments, comment_free, comment_stays, comment_goes, open_refusal, open_between, name_refusal, value_refusal, close_refusal, is_textual, after_tags, leads_after_tags, between, leads_between, is_lexical, text_row}
use Rattle.pgn_game.proofs.reading.PairsInTurn.{with_pairs, Takes, takes}
use Rattle.pgn_game.proofs.refusals.RefusalsInMovetext.{move_refusal, marker_refusal, symbol_leads, marker_whole}
use Rattle.pgn_game.proofs.reading.MovetextTokens.{levels_more, result_meets, stands_free, stands_leads, stands_levels, stands_goes}

dropped_run : (p : Profile) (stage : Stage) (ps : List Pair) (name : List ℕ) (items : List Item) → IsTrue (drops_comments stage)
    → (ks rest : List Kind) (gs : List Game) → AreDropped ks
    → Runs p (at stage ps name items) rest gs → Runs p (at stage ps name items) (ks ++ rest) gs
dropped_run p stage ps name items drops [] rest gs are runs = runs
dropped_run p stage ps name items drops (k ∷ ks) rest gs are runs =
    let both = and_parts (is_comment k) (list_all is_comment ks) are in
    goes _ (at stage ps name items) k _ gs
    (comment_free p stage (at stage ps name items) k drops both.0) (comment_goes k both.0)
    (comment_stays (at stage ps name items) k drops both.0)
    (dropped_run p stage ps name items drops ks rest gs both.1 runs)

-- Pairs.
name_fits : {mode : Mode} {q : Pair} → IsPair mode q → (is_reduced mode && bytes_eq q.name (codes "FEN")) ≡ false
name_fits h = grind (arith, bytes_eq-Decides)

name_passes : (p : Profile) (ps : List Pair) (name : List ℕ) (items : List Item) {q : Pair} → IsFalse (has_pair ps q.name) → IsPair p.mode q
    → refusal p (at AfterLeftBracket ps name items) (tokens.symbol q.name) ≡ None
name_passes p ps name items new h = grind (arith, nat_tests, at, pass, name_refusal, name_fits)

guarded : (a : Bool) {b : Bool} → (a ≡ true → b ≡ false) → (a && b) ≡ false
guarded a h = search rules

value_passes : (p : Profile) (ps : List Pair) (items : List Item) {q : Pair} → IsPair p.mode q
    → refusal p (at AfterName ps q.name items) (tokens.str q.value) ≡ None
value_passes p ps items h = grind (arith, bytes_eq-Decides, nat_tests, pass, value_refusal, guarded)

pair_run : (p : Profile) (ps : List Pair) (name : List ℕ) {ks : List Kind} (rest : List Kind) {q : Pair} (gs : List Game) → SpellsPair ks q
    → length ps < p.tags → IsFalse (has_pair ps q.name) → IsPair p.mode q
    → Runs p (at AfterTags (insert_pair q ps) [] []) rest gs → Runs p (at AfterTags ps name []) (ks ++ rest) gs
pair_run p ps name rest gs (pair xs ys zs n v before_name before_value before_bracket) room new is runs =
    let q : Pair = record { name = n; value = v } in
    let free : nat_le p.tags (length ps) ≡ false = grind (arith, nat_tests) in
    simp append_assoc
    (goes _ _ _ _ gs (open_refusal p (at _ ps name []) refl ∙ pass _ _ None free) refl refl
    (dropped_run p _ ps name [] refl xs _ gs before_name
    (goes _ _ _ _ gs (name_passes p ps name [] new is) refl refl
    (dropped_run p _ ps n [] refl ys _ gs before_value
    (goes _ _ _ _ gs (value_passes p ps [] is) refl refl
    (dropped_run p _ _ [] [] refl zs _ gs before_bracket
    (goes _ _ _ rest gs (close_refusal p _ refl) refl refl runs)))))))

pairs_run : (p : Profile) (ps : List Pair) (name : List ℕ) {ks : List Kind} (rest : List Kind) {qs : List Pair} (gs : List Game)
    → SpellsPairs ks qs → Takes p ps qs
    → ((n : List ℕ) → Runs p (at AfterTags (with_pairs ps qs) n []) rest gs) → Runs p (at AfterTags ps name []) (ks ++ rest) gs
pairs_run p ps name rest gs no_pair takes runs = runs name
pairs_run p ps name rest gs (next_pair ks ls q qs first others) takes runs =
    rw (append_assoc ks ls rest)
    (pair_run p ps name (ls ++ rest) gs first takes.0 takes.1 takes.2 (pairs_run p (insert_pair q ps) [] rest gs others takes.3 runs))

-- Movetext.
module _ (p : Profile) (ps : List Pair) (name : List ℕ) (items : List Item) where
  abbrev in_movetext : Part
  in_movetext = at InMovetext ps name items

  move_free : (s : List ℕ) (played : Played) → Names (here (start_of ps) (levels_of items)) s played
      → refusal p in_movetext (tokens.symbol s) ≡ None
  move_free s played h =
      let place = here (start_of ps) (levels_of items) in
      cc (text_row p in_movetext _ refl, move_refusal p in_movetext s h.no_number h.no_marker, h.one, pass _ _ None h.within)

  move_leads : (s : List ℕ) (played : Played) → Names (here (start_of ps) (levels_of items)) s played
      → next in_movetext (tokens.symbol s) ≡ going (at InMovetext ps name (items ++ games.move played.mv ∷ []))
  move_leads s played h = cc (symbol_leads in_movetext s false h.no_number h.no_marker)

  opens_free : (levels_of items).current.has_own_move ≡ true → depth (levels_of items) < p.depth
      → refusal p in_movetext tokens.left_paren ≡ None
  opens_free holds room =
      let free : nat_le p.depth (depth (levels_of items)) ≡ false = grind (arith, nat_tests) in
      text_row p in_movetext _ refl ∙ pass _ _ _ (ap not holds) ∙ pass _ TooDeep None free

  closes_free : 0 < depth (levels_of items) → refusal p in_movetext tokens.right_paren ≡ None
  closes_free some =
      let free : (depth (levels_of items) == 0) ≡ false = grind (arith, nat_tests) in
      text_row p in_movetext _ refl ∙ pass _ _ None free

abbrev leveled : Level → List Level → Levels
leveled l around = record { current = l; around = around }

abbrev Further : Profile → List Pair → List ℕ → List Item → List Level → List Kind → List Game → Type 0
Further p ps name all around rest gs = (m : Level) → levels_of all ≡ leveled m around → Runs p (at InMovetext ps name all) rest gs

text_run : {p : Profile} (ps : List Pair) (name : List ℕ) {deep : ℕ} {l : Level} {ks : List Kind} {items : List Item}
    → SpellsText p (start_of ps) deep l ks items → (before all : List Item) {around : List Level} (rest : List Kind) (gs : List Game)
    → levels_of before ≡ leveled l around → length around ≡ deep → before ++ items ≡ all
    → Further p ps name all around rest gs → Runs p (at InMovetext ps name before) (ks ++ rest) gs
text_run {p} ps name {l} (no_more _ _) before all rest gs at_level at_depth same further =
    let e : all ≡ before = sym same ∙ append-nil before in
    subst (λ xs. Runs p (at InMovetext ps name xs) rest gs) e (further l (ap levels_of e ∙ at_level))
text_run {p} ps name (token _ _ k ks item items stands text) before all rest gs at_level at_depth same further =
    goes (at _ ps name before) (at _ ps name _) k (ks ++ rest) gs (stands_free p ps name before stands) (stands_goes stands)
    (stands_leads ps name before stands)
    (text_run ps name text _ all rest gs (stands_levels before stands ∙ at_level) at_depth
    (append_assoc before item items ∙ same) further)
text_run {p} ps name {l} (move _ _ s played ks items names text) before all rest gs at_level at_depth same further =
    let placed : replayed (start_of ps) l.trail ≡ here (start_of ps) (levels_of before) = search rules in
    let named : Names (here (start_of ps) (levels_of before)) s played = rw placed at names in
    goes _ _ _ _ gs (move_free p ps name before s played named) refl (move_leads p ps name before s played named)
    (text_run ps name text _ all rest gs (rw at_level at (levels_more before (games.move played.mv))) at_depth
    (append_assoc before _ items ∙ same) further)
text_run {p} ps name {deep} {l} (variation _ _ ks ls items more holds room inner text) before all {around} rest gs at_level at_depth same further =
    let opened : levels_of (before ++ games.open_variation ∷ []) ≡ leveled (new_level (without_last l.trail)) (l ∷ around) =
    rw at_level at (levels_more before games.open_variation) in
    let middle : List Item = (before ++ games.open_variation ∷ []) ++ items in
    let holding : (levels_of before).current.has_own_move ≡ true = rw at_level holds in
    let deepness : depth (levels_of before) ≡ deep = rw at_level at_depth in
    let deeper : depth (levels_of before) < p.depth = omega arith in
    rw (append_assoc ks (tokens.right_paren ∷ ls) rest) (goes _ _ _ _ gs
    (opens_free p ps name before holding deeper) refl refl (text_run ps name inner _ middle _ gs
    opened (omega arith) refl (λ m inside.
    let some : 0 < depth (levels_of middle) = rw inside (omega arith) in
    goes _ _ _ _ gs (closes_free p ps name middle some) refl refl (text_run ps name text _ all rest gs
    (rw inside at (levels_more middle games.close_variation)) at_depth (joined before items more ∙ same) further))))
  where
    joined : (xs ys zs : List Item) → (((xs ++ games.open_variation ∷ []) ++ ys) ++ games.close_variation ∷ []) ++ zs
        ≡ xs ++ games.open_variation ∷ (ys ++ games.close_variation ∷ zs)
    joined xs ys zs = simp append_assoc

-- Markers.
abbrev finished : List Pair → List Item → List ℕ → Game
finished ps items marker = record { pairs = ps; items = items; marker = marker }

record Finishes (p : Profile) (ps : List Pair) (name : List ℕ) (items : List Item) (k : Kind) (marker : List ℕ) : Type 0 where
  free : refusal p (at InMovetext ps name items) k ≡ None
  goes : is_end k ≡ false
  leads : next (at InMovetext ps name items) k ≡ whole (finished ps items marker)

marker_finishes : (p : Profile) (ps : List Pair) (name : List ℕ) (items : List Item) (k : Kind) {marker : List ℕ}
    → marker_of k ≡ Some marker → depth (levels_of items) ≡ 0
    → IsResult p.missing_result (value_of ps (codes "Result")) marker → Finishes p ps name items k marker
marker_finishes p ps name items k {marker} is outside result =
    let shallow : nat_le 1 (depth (levels_of items)) ≡ false = grind (arith, nat_tests) in
    let same = result_meets _ _ marker result in
    let plain = plain_marker k marker is in
    record {
      free =
          text_row p (at InMovetext ps name items) k plain.0 ∙ marker_refusal p (at InMovetext ps name items) k is
          ∙ pass _ MarkerInVariation _ shallow ∙ pass _ ResultDiffers None (ap (λ b. b && (depth (levels_of items) == 0)) same);
      goes = plain.1;
      leads = marker_whole (at InMovetext ps name items) k marker is;
    }
  where
    plain_marker : (k : Kind) (marker : List ℕ) → marker_of k ≡ Some marker → (is_lexical k ≡ false) × (is_end k ≡ false)
    plain_marker k marker is = search rules

-- Games.
-- tokens run from another part too where the first is let pass and leads as it does from this one
runs_alike : (p : Profile) (part other : Part) (ks : List Kind) (gs : List Game)
    → ((k : Kind) (js : List Kind) → ks ≡ k ∷ js → refusal p part k ≡ None
    → (refusal p other k ≡ None) × (next other k ≡ next part k)) → Runs p part ks gs → Runs p other ks gs
runs_alike p part other ks gs alike h6 = search (rules, ends, goes, finishes)

module _ (p : Profile) (ps : List Pair) (name : List ℕ) (items : List Item) where
  textual : (k : Kind) → refusal p (in_movetext p ps name items) k ≡ None → IsTrue (is_textual k)
  unfolding refusal
  textual k free = search (rules, none-some)

  begins_after_tags : (ks : List Kind) (gs : List Game) → lacks_fen ps ≡ false
      → Runs p (at InMovetext ps name items) ks gs → Runs p (at AfterTags ps name items) ks gs
  begins_after_tags ks gs has =
      runs_alike p _ _ ks gs (λ k js e free.
      let is = textual k free in (
        after_tags p (at InMovetext ps name items) k is ∙ pass _ _ _ has ∙ free,
        leads_after_tags (at InMovetext ps name items) k is,
      ))

  begins_between : (ks : List Kind) (gs : List Game) → BeginsBare ks
      → Runs p (at InMovetext ps name items) ks gs → Runs p (at Between ps name items) ks gs
  begins_between ks gs bare =
      runs_alike p _ _ ks gs (λ k js e free.
      let is = textual k free in
      let plain = subst BeginsBare e bare in
      (between p (at InMovetext ps name items) k is plain ∙ free, leads_between (at InMovetext ps name items) k is plain))

module _ (p : Profile) (ps : List Pair) (name : List ℕ) where
  whole_text_run : {text : List Kind} (rest : List Kind) {items : List Item} (last : Kind) {marker : List ℕ} (gs : List Game)
      → SpellsText p (start_of ps) 0 (new_level []) text items → marker_of last ≡ Some marker
      → IsResult p.missing_result (value_of ps (codes "Result")) marker → Runs p no_part rest gs → Runs p (at InMovetext ps name [])
      (text ++ last ∷ rest) (finished ps items marker ∷ gs)
  whole_text_run rest {items} last {marker} gs spells is result runs =
      text_run ps name spells [] items {around = []} (last ∷ rest) (finished ps items marker ∷ gs) refl refl refl
      (λ m outside.
      let h = marker_finishes p ps name items last is (ap (λ x. depth x) outside) result in search (rules, finishes))

  opens_between : (ks : List Kind) (gs : List Game) → Runs p (at AfterTags ps name []) (tokens.left_bracket ∷ ks) gs
      → Runs p (at Between ps name []) (tokens.left_bracket ∷ ks) gs
  opens_between ks gs h5 = search (rules, goes, finishes, open_refusal, open_between)

has_fen : {o : Option (List ℕ)} {fen : Bool} → (o ≡ Some (codes "1") → fen ≡ true)
    → (bytes_eq (unwrap_or o []) (codes "1") && not fen) ≡ false
has_fen h = grind (arith, bytes_eq-Decides, guarded)

bare_with : (text : List Kind) (last : Kind) (rest : List Kind) {marker : List ℕ}
    → marker_of last ≡ Some marker → BeginsBare text → BeginsBare (text ++ last ∷ rest)
bare_with text last rest is bare = search rules

tags_run : (p : Profile) {tags : List Kind} {given : List Pair} (rest : List Kind) (gs : List Game)
    → SpellsPairs tags given → Takes p [] given → IsSetUp (with_pairs [] given) → (given ≡ [] → BeginsBare rest)
    → ((n : List ℕ) → Runs p (at InMovetext (with_pairs [] given) n []) rest gs) → Runs p no_part (tags ++ rest) gs
tags_run p rest gs h5 h6 set_up bare runs = search (rules, with_pairs, takes, pairs_run, begins_after_tags, begins_between, opens_between, has_fen)

game_run : (p : Profile) {ks : List Kind} (rest : List Kind) (g : Game) (gs : List Game)
    → SpellsGame p ks g → Runs p no_part rest gs → Runs p no_part (ks ++ rest) (g ∷ gs)
game_run p {ks} rest g gs h runs =
    let behind : List Kind = h.text ++ h.last ∷ rest in
    let whole_text : (n : List ℕ) → Runs p (at InMovetext (by_name h.given) n []) behind (g ∷ gs) = λ n.
    subst (λ ps. Runs p (at InMovetext ps n []) behind (g ∷ gs)) h.sorted
    (whole_text_run p g.pairs n rest h.last gs h.items h.marker h.result runs) in
    let set_up : IsSetUp (by_name h.given) = subst IsSetUp h.sorted h.set_up in
    let e : ks ++ rest ≡ h.before ++ (h.tags ++ behind) = rw h.tokens (simp append_assoc) in search (rules, dropped_run, tags_run, takes, bare_with)

pub games_run : (p : Profile) (ks : List Kind) (gs : List Game) → SpellsGames p ks gs → Runs p no_part ks gs
unfolding refusal
games_run p _ _ (no_game ks are) = dropped_run p Between [] [] [] refl ks (tokens.end ∷ []) [] are (ends no_part refl)
games_run p _ _ (next_game ks ls g gs first others) = game_run p ls g gs first (games_run p ls gs others)
