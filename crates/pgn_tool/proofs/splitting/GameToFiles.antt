-- What each game makes of the files of the games so far.
use Rattle.pgn_tool.proofs.Words.{◌≡◌, ◌∙◌, ℕ, ◌^◌, ◌<◌, ◌≤◌, true, false, List, [], ◌∷◌, ◌++◌, length, length-append, length-take, map, take, Option, Some, IfSome, Result, Ok, Err, sym, ap, subst, inl, inr, ◌⊎◌, arith, append-nil, Appends, Consumes, Consumes-trans, false≢true, length-map, map-append, Device, one_more, Token, tokens_of, Reason, ReadFault, WriteFault, InputTooLong, Fault, game_text, text_of, Read, due, no_progress, read, StopsWriting, CountsDevices, Games, NextGame, NextStops, NoGame, ReadsNoGame, Decides, GameFile, NotMade, Open, Unsplit, list_profile, FileStep, IsBegun, added, bytes_in, closed, failures_in, file_steps, made, number_after, refusal_step, taken_by, whole_files, CountsSource, CountsSplit, GameSplit, IsOwn, LastFile, SplitFiles, reported, settled, CutFile, CutsFile, IsSplit, IsSplitWhole, Logs, LogsCut, SplitResult, SplitStops, SplitsNoMore, StopsAt, files_of, texts_in, torn_file, torn_text, SplitSoFar, Consumes-whole, CreateFault, Stops, games_before, common_steps, IsRefused, GameState}
use Rattle.pgn_game.specs.export.Due.{Gains}
use Rattle.pgn_tool.proofs.runs.CallToLines.{ReadAs, decides_at_end, has_read_of, reads_at_end, reads_at_token}
use Rattle.pgn_tool.proofs.splitting.FilesOfGames.{file_holds, game_is, log_on, none_torn, number_is, taken_is, torn_is, whole_and_one, whole_file}
use Rattle.pgn_tool.proofs.splitting.NoWriteFaultInTable.{read_own}
use Rattle.pgn_game.proofs.stepping.BytesWithinLimit.{decides_by}

logs : (before after : Option (List FileStep)) (steps : List FileStep) → after ≡ added before steps → Logs before after steps
logs before after steps is = grind (arith, common_steps)

-- ---- what a fault is due to

-- A failed write, which is counted; or the input or its source, and then no write failed.
due_to : (at : ℕ) (reason : Reason) (s t failed : ℕ) → CountsDevices reason s t 0 failed
    → CountsSource reason s t × (IsOwn reason → failed ≡ 0)
    × ((◌≡◌ {A = Fault} (record { at = at; reason = WriteFault }) (record { at = at; reason = reason }) × (0 < failed) × (t ≡ s))
    ⊎ (IsOwn reason × (failed ≡ 0)))
due_to at reason s t failed counts = grind (arith, common_steps)

module _ {A : Type 0} (taken : A → Option (List ℕ)) (failures : A → ℕ) (log : Option (List FileStep)) where
  -- where no write failed the fault itself is reported
  own_reported : (file : GameFile A) (f : Fault) → IsBegun taken failures log file
      → failures_in failures file ≡ 0 → reported file f ≡ Unsplit.Refused f
  own_reported file f begun clean = grind (arith, common_steps)

  -- where one failed it is that, or want of memory
  write_reported : (file : GameFile A) (at : ℕ) → StopsAt at (reported file (record { at = at; reason = WriteFault }))
  write_reported file at = grind (arith, common_steps)

  counts_source : (file : GameFile A) (f : Fault) (s t : ℕ) → IsBegun taken failures log file
      → CountsDevices f.reason s t 0 (failures_in failures file) → CountsSplit {A = Unit} (Err (reported file f)) s t
  counts_source file f s t begun counts = grind (arith, common_steps, due_to)

  -- the last file
  last_file : (n : ℕ) (file : GameFile A) (f : Fault) (s t : ℕ)
      → IsBegun taken failures log file → CountsDevices f.reason s t 0 (failures_in failures file)
      → LastFile n (Err (reported file f)) (file_steps taken failures (one_more n) file)
  last_file n file f s t begun counts = by_reason file begun (due_to f.at f.reason s t (failures_in failures file) counts).2
    where
      by_reason : (file : GameFile A) → IsBegun taken failures log file → ((record { at = f.at; reason = WriteFault } ≡ f)
          × (0 < failures_in failures file) × (t ≡ s)) ⊎ (IsOwn f.reason × (failures_in failures file ≡ 0))
          → LastFile n (Err (reported file f)) (file_steps taken failures (one_more n) file)
      by_reason NotMade begun (inl (write, more, same)) = absurd (omega (arith, more))
      by_reason NotMade begun (inr (own, zero)) = LastFile.not_begun f own
      by_reason (Open out) begun (inl (write, more, same)) =
          subst (λ h. LastFile n (Err (Unsplit.Refused h)) (made (one_more n) ∷ closed (taken out) (failures out) ∷ [])) write
          (LastFile.unwritten f.at (failures out) (taken out) more)
      by_reason (Open out) begun (inr (own, zero)) = rw zero (LastFile.torn f (taken out) own)
      by_reason (GameFile.Refused CreateFault.Refused failed) begun (inl (write, more, same)) =
          subst (λ h. LastFile n (Err (Unsplit.Refused h)) (refusal_step (one_more n) CreateFault.Refused ∷ [])) write (LastFile.not_made f.at)
      by_reason (GameFile.Refused CreateFault.NoMemory failed) begun (inl (write, more, same)) = LastFile.no_memory
      by_reason (GameFile.Refused fault failed) begun (inr (own, zero)) = absurd (false≢true (begun zero))

-- ---- one game

if_known : {B : Type 0} → (o : Option B) (P : B → Type 0) → ((x : B) → o ≡ Some x → P x) → IfSome o P
if_known o P h = grind (arith, common_steps)

-- the file to which a write failed, or that was not made
cut_steps : {A : Type 0}
    → (taken : A → Option (List ℕ)) (failures : A → ℕ) (n : ℕ) (file : GameFile A) (text : List ℕ) (count least : ℕ)
    → Appends (Some []) (taken_by taken file) (take count text) → count < length text → least ≤ count → 0 < failures_in failures file
    → CutFile n text least (file_steps taken failures (one_more n) file)
cut_steps taken failures n NotMade text count least wrote short low more = absurd (omega (arith, more))
cut_steps taken failures n (Open out) text count least wrote short low more =
    rw (taken_is (taken out) (take count text) wrote) (CutFile.cut count (failures out) low short more)
cut_steps taken failures n (GameFile.Refused fault failed) text count least wrote short low more =
    CutFile.not_made fault (omega (arith, low, short, ap (length {A = ℕ}) wrote, length-take count text)) (omega (arith, short))

module _ {A : Type 0} (taken : A → Option (List ℕ)) (failures : A → ℕ) (left_old left left_new : Option (List ℕ)) (old new : Games)
    (before log after : Option (List FileStep)) (so : SplitSoFar left_old left old before log)
    (file : GameFile A) (begun : IsBegun taken failures log file)
    (logged : after ≡ added log (file_steps taken failures (one_more old.converter.games) file)) where
  abbrev none : Option (List ℕ)
  none = bytes_in taken log NotMade

  abbrev some : Option (List ℕ)
  some = bytes_in taken log file

  abbrev texts : List (List ℕ)
  texts = texts_in so.tokens

  all : (more : List ℕ) → Consumes left left_new more → Consumes left_old left_new (so.bytes ++ more)
  all more consumed = Consumes-trans left_old left left_new so.bytes more so.consumed consumed

  number : one_more old.converter.games ≡ one_more (number_after 0 texts)
  number = grind (arith, common_steps, has_read_of, number_is, length-map, read, list_profile, game_text)

  known_log : (b : List FileStep) → before ≡ Some b → log ≡ Some (b ++ whole_files 0 texts)
  known_log b is = so.files ∙ ap (λ o. added o (whole_files 0 texts)) is

  -- the file holds the text that was written, if no write failed
  written : (text : List ℕ) → Appends none some text → failures_in failures file ≡ 0
      → after ≡ added before (whole_files 0 texts ++ torn_file (number_after 0 texts) text)
  written text wrote clean = grind (arith, common_steps, log_on, file_steps, number, file_holds, whole_files, number_after, known_log, bytes_in)

  -- a game more
  game_split : NextGame list_profile so.bytes so.tokens left left_new new none some
      → failures_in failures file ≡ 0 → SplitSoFar left_old left_new new before after
  game_split game clean =
      let own = game_text list_profile game.game in
      let is = game_is so.tokens game.tokens game.gains.text so.none_torn game.gains.due_for game.game game.one_game game.whole in
      let all_texts : texts_in game.tokens ≡ texts ++ own ∷ [] =
      ap (map (game_text list_profile)) game.one_game
      ∙ map-append (game_text list_profile) (read list_profile so.tokens).progress.games (game.game ∷ []) in
      record {
        bytes = so.bytes ++ game.more;
        tokens = game.tokens;
        consumed = all game.more game.consumed;
        have_read = game.have_read;
        none_torn = none_torn game.tokens game.whole;
        files = written game.gains.text game.gains.appended clean
            ∙ ap (λ text. added before (whole_files 0 texts ++ torn_file (number_after 0 texts) text)) (sym is)
            ∙ ap (λ l. added before (whole_files 0 texts ++ l)) (whole_file (number_after 0 texts) game.game)
            ∙ ap (added before) (whole_and_one 0 texts own ∙ ap (whole_files 0) (sym all_texts));
      }

  -- the files of tokens that finish no game more
  files_left : (ts : List Token) → Gains list_profile so.tokens ts none some
      → (read list_profile ts).progress.games ≡ (read list_profile so.tokens).progress.games
      → failures_in failures file ≡ 0 → after ≡ added before (files_of ts)
  files_left ts gains same clean =
      grind (arith, common_steps, written, added, whole_files, torn_file, number_after, torn_is, torn_text, map, game_text, list_profile)

  -- no game is left
  module _ (end : NoGame list_profile so.bytes so.tokens left left_new new none some) (clean : failures_in failures file ≡ 0) where
    abbrev text_tokens : List Token
    text_tokens = tokens_of (so.bytes ++ end.more)

    all_files : after ≡ added before (whole_files 0 (texts_in text_tokens) ++ [])
    all_files =
        files_left text_tokens end.gains end.no_game clean
        ∙ ap (λ text. added before (whole_files 0 (texts_in text_tokens) ++ torn_file (number_after 0 (texts_in text_tokens)) text))
        (none_torn text_tokens end.have_read_all.none_begun)

    all_ended : IfSome left_old (λ s. IsSplitWhole s before after) × SplitFiles before after (Ok tt)
    all_ended = (
      Consumes-whole left_old left_new (so.bytes ++ end.more) (λ s. IsSplitWhole s before after)
          (all end.more end.consumed) end.have_read_all.at_end (record {
            short = end.have_read_all.short;
            passes = end.have_read_all.has_read.passes;
            files = logs before after _ (all_files ∙ ap (added before) (append-nil (whole_files 0 (texts_in text_tokens))));
          }),
      record { texts = texts_in text_tokens; last = []; logged = all_files; ends = LastFile.all_whole },
    )

  -- ---- how a split stops

  -- after the bytes u, of which nothing is rejected
  no_more : (u : List ℕ) → ReadsNoGame list_profile so.tokens u none some → failures_in failures file ≡ 0 → SplitsNoMore u before after
  no_more u none_read clean = grind (arith, common_steps, read, list_profile, files_of, logs, files_left)

  -- where writing stops: the last file, of which a prefix was written
  cut_file : (b : List FileStep) → before ≡ Some b → (text : List ℕ) (count least : ℕ)
      → Appends none some (take count text) → count < length text → least ≤ count
      → 0 < failures_in failures file → LogsCut b after texts text least
  cut_file b is text count least wrote short low more =
      let last = file_steps taken failures (one_more (number_after 0 texts)) file in
      let here = subst (λ l. Appends (bytes_in taken l NotMade) (bytes_in taken l file) (take count text)) (known_log b is) wrote in
      record {
        last = last;
        cut = cut_steps taken failures (number_after 0 texts) file text count least here short low more;
        logged = log_on before log after _ _ last so.files logged (λ b is. ap (λ n. file_steps taken failures n file) number)
            ∙ ap (λ o. added o (whole_files 0 texts ++ last)) is;
      }

  cuts : (ts : List Token) (at : ℕ) → (writing : StopsWriting list_profile so.tokens ts at none some)
      → (read list_profile writing.front).progress.games ≡ (read list_profile so.tokens).progress.games
      → 0 < failures_in failures file → CutsFile ts (reported file (record { at = at; reason = WriteFault })) before after
  cuts ts at writing same more =
      let earlier = text_of list_profile (read list_profile so.tokens).progress.games in
      let given : due list_profile so.tokens ≡ earlier = ap (λ l. earlier ++ l) so.none_torn ∙ append-nil earlier in
      let front : due list_profile writing.front ≡ earlier ++ torn_text writing.front =
      ap (λ gs. text_of list_profile gs ++ torn_text writing.front) same in
      record {
        front = writing.front;
        token = writing.token;
        rest = writing.rest;
        cut = writing.cut;
        passes = writing.passes;
        stops = rw writing.place (write_reported taken failures log file at);
        text = writing.text;
        due_text = writing.due_for ∙ ap (λ l. l ++ writing.text) given ∙ ap (λ gs. text_of list_profile gs ++ writing.text) (sym same);
        files = if_known before _ (λ b is.
            subst (λ l. LogsCut b after l writing.text (length (torn_text writing.front))) (ap (map (game_text list_profile)) (sym same))
            (cut_file b is writing.text writing.count (length (torn_text writing.front)) writing.appended writing.short
            (omega (arith, writing.least, ap (length {A = ℕ}) given, ap (length {A = ℕ}) front, length-append earlier (torn_text writing.front)))
            more));
      }

  abbrev Stopped : Fault → Type 0
  Stopped h = SplitStops left_old left_new before after (reported file h)

  split_stops : (r : GameState) (f : Fault) (s t : ℕ) → NextStops list_profile so.bytes so.tokens left left_new r none some f
      → CountsDevices f.reason s t 0 (failures_in failures file) → SplitStops left_old left_new before after (reported file f)
  split_stops r f s t stopped counts = by_stop stopped counts
    where
      own : (h : Fault) → failures_in failures file ≡ 0 → SplitStops left_old left_new before after (Unsplit.Refused h) → Stopped h
      own h clean stops = subst (SplitStops left_old left_new before after) (sym (own_reported taken failures log file h begun clean)) stops

      clean_at : (h : Fault) → IsOwn h.reason → CountsDevices h.reason s t 0 (failures_in failures file) → failures_in failures file ≡ 0
      clean_at h is counts = (due_to h.at h.reason s t (failures_in failures file) counts).1 is

      by_stops : {h : Fault} (ts : List Token) → Decides left_old left_new ts → ReadAs left_old ts
          → (stops : Stops list_profile so.tokens ts none some h) → games_before stops ≡ (read list_profile so.tokens).progress.games
          → CountsDevices h.reason s t 0 (failures_in failures file) → Stopped h
      by_stops ts decides reads (Stops.unwritten at writing) same counts =
          SplitStops.unwritten ts _ decides (cuts ts at writing same (omega (arith, counts.1)))
      by_stops ts decides reads (Stops.refused h fault gains) same counts =
          let is_own : IsOwn h.reason = rw fault at (read_own list_profile no_progress ts) in
          let clean = clean_at h is_own counts in
          let files = logs before after _ (files_left ts gains same clean) in
          own h clean (SplitStops.rejected h (reads h fault (λ s. IsRefused list_profile s h × IsSplit s h before after) (λ s refused is. (
            refused,
            record {
              fault = ap (λ (r : Read). r.fault) is ∙ fault;
              files = rw is files;
            },
          ))))

      by_stop : {h : Fault} → NextStops list_profile so.bytes so.tokens left left_new r none some h
          → CountsDevices h.reason s t 0 (failures_in failures file) → Stopped h
      by_stop (NextStops.at_token h more consumed to) counts =
          by_stops to.tokens (decides_by left_old left_new (so.bytes ++ more) to.tokens (all more consumed) to.next)
          (reads_at_token left_old left_new (so.bytes ++ more) to.tokens (all more consumed) to.next) to.stops to.no_game counts
      by_stop (NextStops.at_end h more consumed end short to) counts =
          by_stops (tokens_of (so.bytes ++ more)) (decides_at_end left_old left_new (so.bytes ++ more) (all more consumed) end short)
          (reads_at_end left_old left_new (so.bytes ++ more) (all more consumed) end short) to.stops to.no_game counts
      by_stop (NextStops.unread more consumed short none_read) counts =
          let clean = clean_at (record { at = length (so.bytes ++ more); reason = ReadFault }) tt counts in
          own _ clean (SplitStops.unread (so.bytes ++ more) (all more consumed) short (no_more (so.bytes ++ more) none_read clean))
      by_stop (NextStops.too_long more front rest consumed parts place further none_read) counts =
          let clean = clean_at (record { at = 2 ^ 62; reason = InputTooLong }) tt counts in
          own _ clean (subst (λ n. SplitStops left_old left_new before after (Unsplit.Refused (record { at = n; reason = InputTooLong }))) place
          (SplitStops.too_long front rest (subst (Consumes left_old left_new) parts (all more consumed)) place further
          (no_more front none_read clean)))

  files_stop : (f : Fault) (s t : ℕ) → CountsDevices f.reason s t 0 (failures_in failures file)
      → SplitFiles before after (Err (reported file f))
  files_stop f s t counts = record {
    texts = texts;
    last = file_steps taken failures (one_more (number_after 0 texts)) file;
    logged = log_on before log after _ _ _ so.files logged (λ b is. ap (λ n. file_steps taken failures n file) number);
    ends = last_file taken failures log (number_after 0 texts) file f s t begun counts;
  }

-- ---- a call

answered : {A B : Type 0} → (file : GameFile A) (answer : Result B Fault) (x : B) → Ok x ≡ settled file answer → answer ≡ Ok x
answered file answer x is = grind (arith, common_steps)

stopped : {A B : Type 0} → (file : GameFile A) (answer : Result B Fault) (why : Unsplit)
    → Err why ≡ settled file answer → (f : Fault) × (answer ≡ Err f) × (reported file f ≡ why)
stopped file answer why is = grind (arith, common_steps)

module _ {A : Type 0} (taken : A → Option (List ℕ)) (failures : A → ℕ) (left_old : Option (List ℕ)) (source : Device) (old new : Games)
    (before log after : Option (List FileStep)) (so : SplitSoFar left_old source.before old before log) where
  pub one_more_game : GameSplit taken failures old new source log after (Ok true)
      → SplitSoFar left_old source.after new before after × (source.failures_after ≡ source.failures)
  one_more_game call =
      let answer = answered call.file call.answer true call.settles in
      let next = rw answer at call.reads in
      let counted = rw answer at call.counted in
      (game_split taken failures _ _ _ _ _ _ _ _ so call.file call.begun call.logged (next _ _ _ so.have_read) counted.1, counted.0)

  pub no_more_games : GameSplit taken failures old new source log after (Ok false)
      → SplitResult left_old source.after (Ok tt) before after × SplitFiles before after (Ok tt) × (source.failures_after ≡ source.failures)
  no_more_games call =
      let answer = answered call.file call.answer false call.settles in
      let next = rw answer at call.reads in
      let counted = rw answer at call.counted in
      let ended = all_ended taken failures _ _ _ _ _ _ _ _ so call.file call.begun call.logged (next _ _ _ so.have_read) counted.1 in
      (ended.0, ended.1, counted.0)

  pub stops_at : (why : Unsplit) → GameSplit taken failures old new source log after (Err why)
      → SplitStops left_old source.after before after why × SplitFiles before after (Err why)
      × CountsSplit {A = Unit} (Err why) source.failures source.failures_after
  stops_at why call =
      let (f, answer, is) = stopped call.file call.answer why call.settles in
      let next = rw answer at call.reads in
      let counted = rw answer at call.counted in (
        rw is at (split_stops taken failures _ _ _ _ new _ _ _ so call.file call.begun call.logged _ f _ _ (next _ _ _ so.have_read).stops counted),
        rw is at (files_stop taken failures _ _ source.after _ new _ _ _ so call.file call.begun call.logged f _ _ counted),
        rw is at (counts_source taken failures log call.file f _ _ call.begun counted),
      )
