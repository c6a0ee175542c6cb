-- What is known of a game that a text spells: its tokens are sound, and its comments close.
use Rattle.pgn_game.proofs.Words.{◌≡◌, ℕ, Bool, true, false, List, [], ◌∷◌, ◌++◌, refl, ap, append_assoc, Some, codes, AllByRecursion, list_all, All-append, and_parts, IsSoundKind, CommentsClose, written, is_comment, is_result, marker_of, Parts, Kind, Item, Game, Pair, value_of, Profile, Level, start_of, AreDropped, SpellsPair, pair, SpellsPairs, no_pair, next_pair, KeepsTags, by_name, IsSetUp, SpellsText, no_more, token, move, variation, StandsFor, new_level, BeginsBare, IsResult, SpellsGame, arith, rules, false≢true, common_steps}
use Rattle.pgn_lexer.specs.Tokens as tokens
use Rattle.pgn_game.proofs.AllOfJoined.{all_front, all_behind}
use Rattle.pgn_game.proofs.refusals.RefusalsInMovetext.{score_of}
use Rattle.pgn_game.proofs.exporting.PiecesToTokens.{IsSoundPair, IsWritable}

-- Comments. They close behind these kinds if they close behind more before them.
abbrev Closes : List Kind → Type 0
Closes ks = (c : Bool) × CommentsClose c ks

-- an error ends all tokens, so behind it nothing is known
abbrev pub GoesOn : Kind → Type 0
GoesOn (tokens.refused r) = ⊥
GoesOn _ = Unit {0}

-- What is open behind a token. If the token is none of a comment, no comment is open around it.
around_token : (k : Kind) (c : Bool) (ks : List Kind) → GoesOn k → CommentsClose c (k ∷ ks)
    → (d : Bool) × CommentsClose d ks × (is_comment k ≡ false → (c ≡ false) × (d ≡ false))
around_token (tokens.refused r) c ks on h = absurd on
around_token tokens.comment_open false ks on h = (true, h, λ is. absurd (cc))
around_token (tokens.word s) false ks on h = absurd h
around_token (tokens.word s) true ks on h = (true, h, λ is. absurd (cc))
around_token tokens.comment_close false ks on h = absurd h
around_token tokens.comment_close true ks on h = (false, h, λ is. absurd (cc))
around_token _ false ks on h = (false, h, λ is. (refl, refl))
around_token _ true ks on h = absurd h

pub plain : (k : Kind) (c : Bool) (ks : List Kind) → GoesOn k → is_comment k ≡ false → CommentsClose c (k ∷ ks)
    → (c ≡ false) × CommentsClose false ks
plain k c ks on is h = grind (arith, common_steps, around_token)

behind : (xs : List Kind) (c : Bool) (ks : List Kind) → AllByRecursion GoesOn xs → CommentsClose c (xs ++ ks) → Closes ks
behind [] c ks on h = (c, h)
behind (x ∷ xs) c ks on h = let next = around_token x c _ on.0 h in behind xs next.0 ks on.1 next.1

comment_goes_on : (k : Kind) → is_comment k ≡ true → GoesOn k
comment_goes_on k is = search (rules, false≢true)

dropped_go_on : (xs : List Kind) → AreDropped xs → AllByRecursion GoesOn xs
dropped_go_on [] are = tt
dropped_go_on (x ∷ xs) are =
    let both = and_parts (is_comment x) (list_all is_comment xs) are in
    (comment_goes_on x both.0, dropped_go_on xs both.1)

behind_pair : {ks : List Kind} {q : Pair} (c : Bool) (ls : List Kind) → SpellsPair ks q → CommentsClose c (ks ++ ls) → CommentsClose false ls
behind_pair c ls (pair xs ys zs name value d e f) h =
    let last = tokens.right_bracket ∷ ls in
    let valued = tokens.str value ∷ (zs ++ last) in
    let named = tokens.symbol name ∷ (ys ++ valued) in
    let a = around_token tokens.left_bracket c (xs ++ named) tt (simp append_assoc at h) in
    let b = behind xs a.0 named (dropped_go_on xs d) a.1 in
    let g = behind (tokens.symbol name ∷ ys) b.0 valued (tt, dropped_go_on ys e) b.1 in
    let i = behind (tokens.str value ∷ zs) g.0 last (tt, dropped_go_on zs f) g.1 in
    (plain tokens.right_bracket i.0 ls tt refl i.1).1

behind_pairs : {ks : List Kind} {qs : List Pair} (ls : List Kind) → SpellsPairs ks qs → CommentsClose false (ks ++ ls) → CommentsClose false ls
behind_pairs ls no_pair h = h
behind_pairs ls (next_pair ks js q qs first rest) h = behind_pairs ls rest (behind_pair false (js ++ ls) first (rw (append_assoc ks js ls) at h))

item_goes_on : {k : Kind} {item : List Item} → StandsFor k item → GoesOn k
item_goes_on h1 = search rules

text_goes_on : {p : Profile} {first : Parts} {deep : ℕ} {l : Level} {ks : List Kind} {items : List Item}
    → SpellsText p first deep l ks items → AllByRecursion GoesOn ks
text_goes_on (no_more deep l) = tt
text_goes_on (token deep l k ks item items stands rest) = (item_goes_on stands, text_goes_on rest)
text_goes_on (move deep l s x ks items names rest) = (tt, text_goes_on rest)
text_goes_on (variation deep l ks js items more holds room inner rest) =
    let all = All-append GoesOn ks _ (text_goes_on inner) (tt, text_goes_on rest) in (tt, all)

module _ (k : Kind) {marker : List ℕ} where
  marker_goes_on : marker_of k ≡ Some marker → GoesOn k × (is_comment k ≡ false)
  marker_goes_on is = grind arith

  marker_plain : (c : Bool) (ks : List Kind) → marker_of k ≡ Some marker → CommentsClose c (k ∷ ks) → (c ≡ false) × CommentsClose false ks
  marker_plain c ks is h = let on = marker_goes_on is in plain k c ks on.0 on.1 h

  pub marker_closed : (ks : List Kind) → marker_of k ≡ Some marker → CommentsClose false ks → CommentsClose false (k ∷ ks)
  marker_closed ks is h = search rules

  pub marker_opens : (c : Bool) (ks ls : List Kind) → marker_of k ≡ Some marker → CommentsClose c (k ∷ ks) → CommentsClose false ls
      → CommentsClose c (k ∷ ls)
  marker_opens c ks ls is h more = rw ((marker_plain c ks is h).0) (marker_closed ls is more)

-- no comment is open where movetext begins
bare_text : (ks : List Kind) (c : Bool) (k : Kind) {marker : List ℕ} (ls : List Kind) → AllByRecursion GoesOn ks → BeginsBare ks
    → marker_of k ≡ Some marker → CommentsClose c (ks ++ k ∷ ls) → CommentsClose false (ks ++ k ∷ ls)
bare_text ks c k ls on bare is h = search (rules, plain, marker_plain)

before_text : {tags : List Kind} (text : List Kind) {given : List Pair} (c : Bool) (k : Kind) {marker : List ℕ} (ls : List Kind)
    → SpellsPairs tags given → (given ≡ [] → BeginsBare text) → AllByRecursion GoesOn text → marker_of k ≡ Some marker
    → CommentsClose c (tags ++ (text ++ k ∷ ls)) → CommentsClose false (text ++ k ∷ ls)
before_text text c k ls no_pair bare on is h = bare_text text c k ls on (bare refl) is h
before_text text c k ls (next_pair ks js q qs one rest) bare on is h = grind (arith, common_steps, behind_pairs, behind_pair, append_assoc)

sound_pair : {ks : List Kind} {q : Pair} → SpellsPair ks q → AllByRecursion IsSoundKind ks → IsSoundPair q
sound_pair h2 sound = search (rules, all_behind)

sound_pairs : (ks : List Kind) (qs : List Pair) → SpellsPairs ks qs → AllByRecursion IsSoundKind ks → AllByRecursion IsSoundPair qs
sound_pairs _ _ no_pair sound = tt
sound_pairs _ _ (next_pair ks js q qs one rest) sound = (sound_pair one (all_front _ ks js sound), sound_pairs js qs rest (all_behind _ ks js sound))

-- Markers.
module _ (k : Kind) {marker : List ℕ} where
  pub marker_is_result : marker_of k ≡ Some marker → is_result marker ≡ true
  marker_is_result is = grind (arith, score_of)

  pub marker_written : marker_of k ≡ Some marker → written k ≡ marker
  marker_written is = grind (arith, score_of)

  pub marker_writable : marker_of k ≡ Some marker → IsSoundKind k → IsWritable k
  marker_writable is sound = search rules

pub record SoundGame (p : Profile) (g : Game) : Type 0 where
  pub given : List Pair
  pub text : List Kind
  pub last : Kind
  pub later : List Kind
  pub keeps : KeepsTags p given
  pub sorted : g.pairs ≡ by_name given
  pub set_up : IsSetUp g.pairs
  pub sound_pairs : AllByRecursion IsSoundPair given
  pub items : SpellsText p (start_of g.pairs) 0 (new_level []) text g.items
  pub sound_text : AllByRecursion IsSoundKind text
  pub marker : marker_of last ≡ Some g.marker
  pub sound_marker : IsSoundKind last
  pub closes : CommentsClose false (text ++ last ∷ later)
  pub result : IsResult p.missing_result (value_of g.pairs (codes "Result")) g.marker

pub sound_game : {p : Profile} {ks : List Kind} (ls : List Kind) {g : Game}
    → SpellsGame p ks g → AllByRecursion IsSoundKind ks → CommentsClose false (ks ++ ls) → SoundGame p g × CommentsClose false ls
sound_game ls h sound closes =
    let sound_behind = all_behind IsSoundKind h.before (h.tags ++ (h.text ++ h.last ∷ [])) (rw h.tokens at sound) in
    let sound_rest = all_behind IsSoundKind h.tags (h.text ++ h.last ∷ []) sound_behind in
    let some = behind h.before false (h.tags ++ (h.text ++ h.last ∷ ls)) (dropped_go_on h.before h.dropped)
    (simp append_assoc at ((rw (ap (λ xs. xs ++ ls) h.tokens) at closes))) in
    let on = text_goes_on h.items in
    let text = before_text h.text some.0 h.last ls h.pairs h.bare on h.marker some.1 in
    let end = behind h.text false (h.last ∷ ls) on text in (
      record {
        given = h.given;
        text = h.text;
        last = h.last;
        later = ls;
        keeps = h.keeps;
        sorted = h.sorted;
        set_up = h.set_up;
        sound_pairs = sound_pairs h.tags h.given h.pairs (all_front IsSoundKind h.tags (h.text ++ h.last ∷ []) sound_behind);
        items = h.items;
        sound_text = all_front IsSoundKind h.text (h.last ∷ []) sound_rest;
        marker = h.marker;
        sound_marker = (all_behind IsSoundKind h.text (h.last ∷ []) sound_rest).0;
        closes = text;
        result = h.result;
      },
      (marker_plain h.last end.0 ls h.marker end.1).1,
    )
