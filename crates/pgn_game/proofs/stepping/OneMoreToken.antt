-- One token more: what was read, and what is due for it.
use Rattle.pgn_game.proofs.Words.{Bool, Kind, Token, Reason, Fault, Mode, Profile, Missing, Game, Part, no_part, ◌≡◌, ℕ, ◌+◌, List, [], ◌∷◌, ◌++◌, length, Option, None, Some, refl, sym, ap, ◌∙◌, append_assoc, append-nil, length-append, arith, take-append-add, Appends-trans, Appends-nil, refusal, text_next, gain, Gains, game_text, text_of_games as text_of, torn_for, Next, next, Progress, progress_with, progress_after, no_progress, Read, read_from, read, written_so_far as written, due, IsPrefix, DueGrows, Stops, refused_stop as refused, unwritten, StopsWriting, games_before, position_at_stop, ProbesAtStop, rules, subst, Appends, torn, common_steps}
use Rattle.pgn_game.proofs.stepping.NextGrows.{next_is}

abbrev read_as : Progress → Option Fault → Read
read_as b f = record { progress = b; fault = f }

-- reading goes on where a token is not rejected
abbrev pub after_test : Profile → Progress → Token → List Token → Option Reason → Read
after_test p b t ts (Some reason) = read_as b (Some (record { at = t.at; reason = reason }))
after_test p b t ts None = read_from p (progress_after b t) ts

module _ (p : Profile) (b : Progress) (t : Token) (ts : List Token) where
  pub read_from-test : read_from p b (t ∷ ts) ≡ after_test p b t ts (refusal p b.part t.kind)
  read_from-test = cc

  -- what holds where a token is rejected, and where it passes, holds of what is read from it on
  pub by_token : (P : Read → Type 0)
      → ((reason : Reason) → refusal p b.part t.kind ≡ Some reason → P (read_as b (Some (record { at = t.at; reason = reason }))))
      → (refusal p b.part t.kind ≡ None → P (read_from p (progress_after b t) ts)) → P (read_from p b (t ∷ ts))
  by_token P rejected passes = grind (arith, common_steps, read_from-test)

  passed : (o : Option Reason) → (after_test p b t ts o).fault ≡ None → o ≡ None
  passed o e = search rules

  pub first_passes : (read_from p b (t ∷ ts)).fault ≡ None → refusal p b.part t.kind ≡ None
  first_passes e = passed (refusal p b.part t.kind) (rw (read_from-test) at e)

  pub goes_on : refusal p b.part t.kind ≡ None → read_from p b (t ∷ ts) ≡ read_from p (progress_after b t) ts
  goes_on none = read_from-test ∙ ap (after_test p b t ts) none

module _ (p : Profile) where
  after_those : (b : Progress) (ts : List Token) (t : Token) (us : List Token) → (read_from p b ts).fault ≡ None
      → read_from p b (ts ++ t ∷ us) ≡ after_test p (read_from p b ts).progress t us (refusal p (read_from p b ts).progress.part t.kind)
  after_those b [] t us e = read_from-test p b t us
  after_those b (x ∷ xs) t us e =
      let none = first_passes p b x xs e in
      let here : read_from p b (x ∷ xs) ≡ read_from p (progress_after b x) xs = goes_on p b x xs none in
      cc (goes_on p b x (xs ++ t ∷ us) none, after_those (progress_after b x) xs t us (rw here at e), here)

  pub read-passes : (given : List Token) (t : Token) → (read p given).fault ≡ None → refusal p (read p given).progress.part t.kind ≡ None
      → read p (given ++ t ∷ []) ≡ read_as (progress_after (read p given).progress t) None
  read-passes given t e none = after_those no_progress given t [] e ∙ ap (after_test p (read p given).progress t []) none

  pub read-refuses : (given : List Token) (t : Token) (us : List Token) (reason : Reason) → (read p given).fault ≡ None
      → refusal p (read p given).progress.part t.kind ≡ Some reason
      → read p (given ++ t ∷ us) ≡ read_as (read p given).progress (Some (record { at = t.at; reason = reason }))
  read-refuses given t us reason e some = after_those no_progress given t us e ∙ ap (after_test p (read p given).progress t us) some

  pub text_of-snoc : (games : List Game) (g : Game) → text_of p (games ++ g ∷ []) ≡ text_of p games ++ game_text p g
  text_of-snoc [] g = append-nil (game_text p g)
  text_of-snoc (x ∷ xs) g = rw (text_of-snoc xs g) (sym (append_assoc (game_text p x) (text_of p xs) (game_text p g)))

-- where no game is begun, nothing stands written of one
pub torn-none : (missing : Missing) (mode : Mode) → torn_for missing mode no_part ≡ []
torn-none missing mode = search rules

-- what is written when a token has led so far
module _ (p : Profile) (games : List Game) where
  written_with : (nx : Next) → written p (progress_with games nx) ≡ text_of p games ++ text_next p nx
  written_with nx = search (rules, torn-none, append-nil, text_of-snoc)

  written-next : (part : Part) (k : Kind)
      → written p (progress_with games (next part k)) ≡ written p (record { games = games; part = part }) ++ gain p part k
  written-next part k = cc (written_with (next part k), next_is p part k, append_assoc (text_of p games) (torn p part) (gain p part k))

pub due-passes : (p : Profile) (given : List Token) (t : Token)
    → (read p given).fault ≡ None → refusal p (read p given).progress.part t.kind ≡ None
    → due p (given ++ t ∷ []) ≡ due p given ++ gain p (read p given).progress.part t.kind
due-passes p given t e none = cc (read-passes p given t e none, written-next p (read p given).progress.games (read p given).progress.part t.kind)

pub gains_none : {p : Profile} {given : List Token} {o : Option (List ℕ)} → Gains p given given o o
gains_none {p} {given} {o} = record { text = []; due_for = sym (append-nil (due p given)); appended = Appends-nil o }

pub gains_more : {p : Profile} {x y z : List Token} {a b c : Option (List ℕ)} → Gains p x y a b → Gains p y z b c → Gains p x z a c
gains_more first more = search (rules, Appends-trans, append_assoc)

unfoldable pub writing_more : (p : Profile) (x : List Token) {y tokens : List Token} {at : ℕ} (a b c : Option (List ℕ))
    → Gains p x y a b → StopsWriting p y tokens at b c → StopsWriting p x tokens at a c
writing_more p x a b c first more =
    record {
      front = more.front;
      token = more.token;
      rest = more.rest;
      cut = more.cut;
      place = more.place;
      passes = more.passes;
      text = first.text ++ more.text;
      due_for = more.due_for ∙ ap (λ l. l ++ more.text) first.due_for ∙ append_assoc (due p x) first.text more.text;
      count = length first.text + more.count;
      least = omega (arith, more.least, ap (length {A = ℕ}) first.due_for, length-append (due p x) first.text);
      short = omega (arith, more.short, length-append first.text more.text);
      appended = subst (Appends a c) (sym (take-append-add first.text more.text more.count)) (Appends-trans a b c _ _ first.appended more.appended);
    }

pub stops_more : {p : Profile} {x y tokens : List Token} {f : Fault} {a b c : Option (List ℕ)}
    → Gains p x y a b → Stops p y tokens b c f → Stops p x tokens a c f
stops_more first (refused g fault gains) = refused g fault (gains_more first gains)
stops_more {p} {x} {a} {b} {c} first (unwritten at writing) = unwritten at (writing_more p x a b c first writing)

-- where reading stops is not moved by what was read before
pub games_still : {p : Profile} {x y tokens : List Token} {f : Fault} {a b c : Option (List ℕ)}
    (first : Gains p x y a b) (stops : Stops p y tokens b c f) → games_before (stops_more first stops) ≡ games_before stops
unfolding stops_more writing_more
games_still first (refused g fault gains) = refl
games_still first (unwritten at writing) = refl

pub counts_still : {p : Profile} {x y tokens : List Token} {f : Fault} {a b c : Option (List ℕ)}
    (first : Gains p x y a b) (stops : Stops p y tokens b c f) {silent : Bool} {most : ℕ}
    → ProbesAtStop silent stops most → ProbesAtStop silent (stops_more first stops) most
unfolding stops_more writing_more
counts_still first (refused g fault gains) h = record { tried = h.tried; probed = h.probed }
counts_still first (unwritten at writing) h = record { tried = h.tried; probed = h.probed }

pub position_still : {p : Profile} {x y tokens : List Token} {f : Fault} {a b c : Option (List ℕ)}
    (first : Gains p x y a b) (stops : Stops p y tokens b c f) → position_at_stop (stops_more first stops) ≡ position_at_stop stops
unfolding stops_more
position_still first (refused g fault gains) = refl
position_still first (unwritten at writing) = refl

-- behind a token that is rejected nothing is read
pub stops_from : (p : Profile) (b : Progress) (ts us : List Token) {f : Fault}
    → (read_from p b ts).fault ≡ Some f → read_from p b (ts ++ us) ≡ read_from p b ts
stops_from p b [] us e = absurd (cc)
stops_from p b (t ∷ ts) us {f} e =
    by_token p b t ts (λ r. r.fault ≡ Some f → read_from p b (t ∷ ts ++ us) ≡ r)
    (λ reason is fault. read_from-test p b t (ts ++ us) ∙ ap (after_test p b t (ts ++ us)) is)
    (λ is fault. goes_on p b t (ts ++ us) is ∙ stops_from p (progress_after b t) ts us fault) e

pub also : (xs ys zs : List ℕ) → IsPrefix xs ys → IsPrefix ys zs → IsPrefix xs zs
also xs ys zs h k = (h.0 ++ k.0, k.1 ∙ ap (λ l. l ++ k.0) h.1 ∙ append_assoc xs h.0 k.0)

same_text : (xs : List ℕ) → IsPrefix xs xs
same_text xs = ([], sym (append-nil xs))

pub grows_from : (p : Profile) (b : Progress) (us : List Token) → IsPrefix (written p b) (written p (read_from p b us).progress)
grows_from p b [] = same_text (written p b)
grows_from p b (t ∷ ts) =
    by_token p b t ts (λ r. IsPrefix (written p b) (written p r.progress)) (λ reason is. same_text (written p b))
    (λ is. also (written p b) (written p (progress_after b t)) _
    (gain p b.part t.kind, written-next p b.games b.part t.kind) (grows_from p (progress_after b t) ts))

grows : (p : Profile) (b : Progress) (ts us : List Token)
    → IsPrefix (written p (read_from p b ts).progress) (written p (read_from p b (ts ++ us)).progress)
grows p b [] us = grows_from p b us
grows p b (t ∷ ts) us =
    by_token p b t ts (λ r. IsPrefix (written p r.progress) (written p (read_from p b (t ∷ ts ++ us)).progress))
    (λ reason is. grows_from p b (t ∷ ts ++ us))
    (λ is. rw (goes_on p b t (ts ++ us) is) (grows p (progress_after b t) ts us))

pub due_grows : DueGrows
due_grows p ts us = grows p no_progress ts us
