-- What is given of the tokens of a text, call by call.
use Rattle.std.proofs.lemmas.List.{map-append}
use Rattle.pgn_game.proofs.Words.{◌-◌, ◌≡◌, ℕ, ◌^◌, ◌≤◌, ◌⊎◌, List, [], ◌∷◌, ◌++◌, map, length, Option, None, Some, refl, sym, ap, subst, ◌∙◌, inl, inr, arith, append-nil, append_assoc, length-append, take_all, Kind, Token, Fault, Stage, InMovetext, Profile, Part, no_progress, Progress, progress_after, going, whole, next, next_in, items_of, marker_of, read, read_from, tokens_of, first, Follows, Consumes, Parts, position_at_fault, rules}
use Rattle.pgn_layout.specs.Device.{Device}
use Rattle.pgn_lexer.specs.Standing.{coming}
use Rattle.pgn_game.specs.public.Given.{Given, given_at, given_of, given_of_games, given_of_next, given_of_part, given_with, item, marker, tags}
use Rattle.pgn_game.specs.public.ItemsCalls as calls
use Rattle.pgn_game.specs.public.ItemsCalls.{GivesFault, GivesNoItem, HaveGiven, Items, ItemsRead, ItemsStop, given_next, position_at_items_stop, refused_items_position}
use Rattle.pgn_game.specs.laws.ItemsJoined.{EndGivesAll, EndUsesAll, FaultGivesAll, FaultKeepsPosition, GivenAll, GivenGrows, GivenIsFront, IsFront, ReadHasFailed, TokensAreFirst, all_given}
use Rattle.pgn_game.proofs.giving.TokenToItems.{given_after}
use Rattle.pgn_game.proofs.stepping.OneMoreToken.{by_token, goes_on, stops_from}
use Rattle.pgn_game.proofs.stepping.StepsInPiece.{before_more}

-- ---- a token takes nothing back

front_of : (xs ys zs : List Given) → IsFront xs ys → IsFront ys zs → IsFront xs zs
front_of xs ys zs h k = (h.0 ++ k.0, k.1 ∙ ap (λ (l : List Given). l ++ k.0) h.1 ∙ append_assoc xs h.0 k.0)

same_front : (xs : List Given) → IsFront xs xs
same_front xs = ([], sym (append-nil xs))

behind_front : (xs ys zs : List Given) → IsFront ys zs → IsFront (xs ++ ys) (xs ++ zs)
behind_front xs ys zs h = (h.0, ap (λ (l : List Given). xs ++ l) h.1 ∙ sym (append_assoc xs ys h.0))

module _ (part : Part) (k : Kind) where
  in_movetext : IsFront (given_with part.pairs part.items) (given_of_next (next_in InMovetext part k))
  in_movetext =
      elim (marker_of k)
      as (λ o. IsFront (given_with part.pairs part.items) (given_of_next (elim o [
        | Some text ↦ whole (record { pairs = part.pairs; items = part.items; marker = text })
        | None ↦ going (record { stage = InMovetext; pairs = part.pairs; name = part.name; items = part.items ++ items_of part k })
      ]))) [
        | Some text ↦ (marker text ∷ [], refl)
        | None ↦ (map item (items_of part k), ap (λ (gs : List Given). tags part.pairs ∷ gs) (map-append item part.items (items_of part k)))
      ]

  at_stage : (stage : Stage) → IsFront (given_at stage part) (given_of_next (next_in stage part k))
  at_stage InMovetext = in_movetext
  at_stage _ = (_, refl)

  next_gives : IsFront (given_of_part part) (given_of_next (next part k))
  next_gives = at_stage part.stage

module _ (p : Profile) where
  token_gives : (b : Progress) (t : Token) → IsFront (given_of b) (given_of (progress_after b t))
  token_gives b t =
      subst (IsFront (given_of b)) (sym (given_after b.games (next b.part t.kind))) (behind_front (given_of_games b.games) _ _ (next_gives b.part t.kind))

  grows_from : (b : Progress) (us : List Token) → IsFront (given_of b) (given_of (read_from p b us).progress)
  grows_from b [] = same_front (given_of b)
  grows_from b (t ∷ ts) =
      by_token p b t ts (λ r. IsFront (given_of b) (given_of r.progress)) (λ reason is. same_front (given_of b))
      (λ is. front_of (given_of b) (given_of (progress_after b t)) _ (token_gives b t) (grows_from (progress_after b t) ts))

  grows : (b : Progress) (ts us : List Token) → IsFront (given_of (read_from p b ts).progress) (given_of (read_from p b (ts ++ us)).progress)
  grows b [] us = grows_from b us
  grows b (t ∷ ts) us =
      by_token p b t ts (λ r. IsFront (given_of r.progress) (given_of (read_from p b (t ∷ ts ++ us)).progress))
      (λ reason is. grows_from b (t ∷ ts ++ us))
      (λ is. rw (goes_on p b t (ts ++ us) is) (grows (progress_after b t) ts us))

pub given_grows : GivenGrows
given_grows p ts us = grows p no_progress ts us

-- ---- the tokens read are the first ones of the text

follows_first : (xs ys : List ℕ) → Follows (first xs) (xs ++ ys)
follows_first xs ys = search rules

first_tokens : (p : Profile) (u rest : List ℕ) (i : Items) (tokens : List Token) → ItemsRead p (Some rest) u i tokens
    → (later : List Token) × (tokens_of (u ++ rest) ≡ tokens ++ later)
first_tokens p u rest i tokens (calls.within more on) = (
  coming i.lexer (i.unused ++ rest),
  ap (λ (s : List ℕ). tokens_of (s ++ rest)) on.bytes ∙ ap tokens_of (append_assoc on.used i.unused rest)
      ∙ (before_more i.unused (2 ^ 62 - length on.used) on.stands.lexer).tokens (i.unused ++ rest) (follows_first i.unused rest),
)
first_tokens p u rest i tokens (calls.behind more left) = search (rules, append-nil)
first_tokens p u rest i tokens (calls.at_end more place all) = search (rules, append-nil)

pub tokens_are_first : TokensAreFirst
tokens_are_first p u rest i given have = first_tokens p u rest i have.tokens have.reads

pub given_is_front : GivenIsFront
given_is_front p u rest i given have =
    let cut = first_tokens p u rest i have.tokens have.reads in
    subst (λ (gs : List Given). IsFront gs (all_given p (u ++ rest))) have.whole
    (subst (λ (ts : List Token). IsFront (given_of (read p have.tokens).progress) (given_of (read p ts).progress)) (sym cut.1)
    (given_grows p have.tokens cut.0))

-- ---- the end, and a fault

-- the bytes that a call read, and those that are left then
rest_after : (rest more : List ℕ) (left : Option (List ℕ)) → Consumes (Some rest) left more
    → (after : List ℕ) × (left ≡ Some after) × (rest ≡ more ++ after)
rest_after rest more left consumed = search rules

-- the whole text was read
all_read : (p : Profile) (u rest : List ℕ) (given : List Given) (left_new : Option (List ℕ)) (new : Items) (gives : GivesNoItem p u given (Some rest) left_new new)
    → u ++ rest ≡ u ++ gives.more
all_read p u rest given left_new new gives = search (rules, rest_after, append-nil)

pub end_gives_all : EndGivesAll
end_gives_all p u rest given left_new new gives = search (rules, all_read)

pub end_uses_all : EndUsesAll
end_uses_all p u rest given left_new new gives = gives.place ∙ ap (length {A = ℕ}) (sym (all_read p u rest given left_new new gives))

module _ (p : Profile) (u after : List ℕ) (given : List Given) (source : Device) (left : source.after ≡ Some after) (short : length (u ++ after) ≤ 2 ^ 62) where
  fits : length u ≤ 2 ^ 62
  fits = omega (arith, short, length-append u after)

  stop_gives_all : (f : Fault) → ItemsStop p u given source f → ReadHasFailed source f ⊎ GivenAll p (u ++ after) given (Some f)
  stop_gives_all g (calls.at_token f tokens follows fault all_is) =
      let cut = follows after in
      let all : tokens_of (u ++ after) ≡ tokens ++ cut.0 = ap (λ (s : List ℕ). tokens_of (s ++ after)) (sym (take_all (2 ^ 62) u fits)) ∙ cut.1 in
      let same = ap (read p) all ∙ stops_from p no_progress tokens cut.0 fault in search rules
  stop_gives_all g (calls.at_end f ended size fault all_is) = search (rules, append-nil)
  stop_gives_all g (calls.unread counted size passes all_is) = inl (record { reason = refl; counted = counted })
  stop_gives_all g (calls.too_long front rest is long some passes all_is) = search (rules, fits, length-append)

  stop_position : (f : Fault) (stops : ItemsStop p u given source f)
      → ReadHasFailed source f ⊎ (position_at_items_stop stops ≡ position_at_fault (read p (tokens_of (u ++ after))))
  stop_position g (calls.at_token f tokens follows fault all_is) =
      let cut = follows after in
      let all : tokens_of (u ++ after) ≡ tokens ++ cut.0 = ap (λ (s : List ℕ). tokens_of (s ++ after)) (sym (take_all (2 ^ 62) u fits)) ∙ cut.1 in
      inr (sym (ap position_at_fault (ap (read p) all ∙ stops_from p no_progress tokens cut.0 fault)))
  stop_position g (calls.at_end f ended size fault all_is) = search (rules, append-nil)
  stop_position g (calls.unread counted size passes all_is) = inl (record { reason = refl; counted = counted })
  stop_position g (calls.too_long front rest is long some passes all_is) = search (rules, fits, length-append)

pub fault_gives_all : FaultGivesAll
fault_gives_all p u rest given source new f before short gives =
    let after = rest_after rest gives.more source.after (subst (λ (left : Option (List ℕ)). Consumes left source.after gives.more) before gives.consumed) in
    let all : u ++ rest ≡ (u ++ gives.more) ++ after.0 = ap (λ (s : List ℕ). u ++ s) after.2 ∙ sym (append_assoc u gives.more after.0) in
    search (rules, stop_gives_all)

pub fault_keeps_position : FaultKeepsPosition
fault_keeps_position p u rest given source new f before short gives =
    let after = rest_after rest gives.more source.after (subst (λ (left : Option (List ℕ)). Consumes left source.after gives.more) before gives.consumed) in
    let all : u ++ rest ≡ (u ++ gives.more) ++ after.0 = ap (λ (s : List ℕ). u ++ s) after.2 ∙ sym (append_assoc u gives.more after.0) in
    search (rules, by, stop_position)
  where
    by : {o : Option Parts} → ReadHasFailed source f ⊎ (position_at_items_stop gives.stops ≡ o) → ReadHasFailed source f ⊎ (refused_items_position new ≡ o)
    by h1 = search rules
