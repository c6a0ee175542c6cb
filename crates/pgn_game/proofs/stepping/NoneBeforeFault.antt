-- Behind the last piece no game is finished before a token that is rejected, or a write that fails.
use Rattle.pgn_game.proofs.Words.{Token, Fault, Profile, ◌≡◌, ℕ, ◌+◌, List, [], ◌∷◌, ◌++◌, length, Option, None, refl, sym, ap, ◌∙◌, inl, inr, ◌⊎◌, append-nil, append_assoc, length-append, tokens_of, Standing, coming, HasLeft, Progress, progress_after, Read, read, read_from, due, Stops, refused_stop as refused, unwritten, StopsWriting, games_before, rules}
use Rattle.pgn_game.proofs.stepping.OneMoreToken.{first_passes, goes_on, due_grows}
use Rattle.pgn_game.proofs.stepping.LastTokens.{left_games, none_finished_before}

-- behind tokens that pass the rest is read from where they led
pub reads_behind : (p : Profile) (b : Progress) (ts us : List Token) → (read_from p b ts).fault ≡ None
    → read_from p b (ts ++ us) ≡ read_from p (read_from p b ts).progress us
reads_behind p b [] us e = refl
reads_behind p b (t ∷ ts) us e =
    let none = first_passes p b t ts e in
    let here : read_from p b (t ∷ ts) ≡ read_from p (progress_after b t) ts = goes_on p b t ts none in
    goes_on p b t (ts ++ us) none ∙ reads_behind p (progress_after b t) ts us (ap (λ (r : Read). r.fault) (sym here) ∙ e)
    ∙ ap (λ (r : Read). read_from p r.progress us) (sym here)

-- ---- a write that fails

-- two ways to part a list: one front goes on where the other ends
abbrev Parted : List Token → List Token → List Token → List Token → Type 0
Parted xs ys behind_xs behind_ys =
    ((mid : List Token) × (ys ≡ xs ++ mid) × (behind_xs ≡ mid ++ behind_ys))
    ⊎ ((mid : List Token) × (xs ≡ ys ++ mid) × (behind_ys ≡ mid ++ behind_xs))

parted : (xs ys : List Token) {behind_xs behind_ys : List Token} → xs ++ behind_xs ≡ ys ++ behind_ys → Parted xs ys behind_xs behind_ys
parted [] ys e = inl (ys, refl, e)
parted (x ∷ xs) [] e = inr (x ∷ xs, refl, sym e)
parted (x ∷ xs) (y ∷ ys) {behind_xs} {behind_ys} e = further (parted xs ys (cc))
  where
    head_same : x ≡ y
    head_same = cc

    further : Parted xs ys behind_xs behind_ys → Parted (x ∷ xs) (y ∷ ys) behind_xs behind_ys
    further h1 = search (rules, head_same)

-- the token at fault is the first of those that are left: the games before it are those so far
module _ (p : Profile) (given : List Token) (l : Standing) (ts : List Token)
    (passes : (read p given).fault ≡ None) (whole_text : ts ≡ given ++ coming l [])
    (at : ℕ) (a b : Option (List ℕ)) (writing : StopsWriting p given ts at a b) where
  longer : length (due p (writing.front ++ writing.token ∷ [])) ≡ length (due p given) + length writing.text
  longer = ap (length {A = ℕ}) writing.due_for ∙ length-append (due p given) writing.text

  behind_given : (mid : List Token) → writing.front ≡ given ++ mid → coming l [] ≡ mid ++ writing.token ∷ writing.rest
      → (read p writing.front).progress.games ≡ (read p given).progress.games
  behind_given mid is parts = search (rules, append_assoc, longer, none_finished_before, reads_behind)

  head : {t u : Token} {ts us : List Token} → t ∷ ts ≡ u ∷ us → t ≡ u
  head e = cc

  by_parts : Parted given writing.front (coming l []) (writing.token ∷ writing.rest)
      → (read p writing.front).progress.games ≡ (read p given).progress.games
  by_parts (inl (mid, is, parts)) = behind_given mid is parts
  by_parts (inr ([], is, parts)) = rw (is ∙ append-nil writing.front)
  by_parts (inr (m ∷ mid, is, parts)) =
      let all : given ≡ (writing.front ++ writing.token ∷ []) ++ mid = search (rules, head, append_assoc) in
      let grown = due_grows p (writing.front ++ writing.token ∷ []) mid in search (rules, longer, length-append)

-- ---- both

-- u is the whole text, and of its tokens the lexer has left those behind the given ones
pub none_before_fault : (p : Profile) (u : List ℕ) {given : List Token} (l : Standing) → HasLeft l u given
    → (read p given).fault ≡ None → {a b : Option (List ℕ)} {f : Fault} (stops : Stops p given (tokens_of u) a b f)
    → games_before stops ≡ (read p given).progress.games
none_before_fault p u {given} l left passes {a} {b} (unwritten at writing) =
    by_parts p given l (tokens_of u) passes left at a b writing (parted given writing.front (sym left ∙ writing.cut))
none_before_fault p u {given} l left passes (refused f fault gains) = search (rules, left_games, reads_behind)
