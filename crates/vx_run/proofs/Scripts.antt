-- What a script that was read asks for.
use Rattle.std.proofs.Common.{◌≡◌, ◌≢◌, ℕ, zero, suc, ◌+◌, ◌<◌, ◌≤◌, Bool, true, false, nat_lt, nat_le, List, [], ◌∷◌, ◌++◌, length, take, get_or, Option, Some, None, Result, Ok, Err, refl, sym, ◌∙◌, ap, subst, inl, inr, arith, codes, if◌then◌else◌}
use Rattle.std.specs.Prelude.{All, IfSome, slice_get, unwrap_or, sum_by}
use Rattle.std.specs.Str.{bytes_eq}
use Rattle.std.proofs.lemmas.Bool.{cases_lt, cases_eq}
use Rattle.std.proofs.lemmas.Bool.Decides.{nat_tests}
use Rattle.std.proofs.lemmas.List.{take_all, take_more, length-take}
use Rattle.std.proofs.lemmas.List.Sums.{sum_by-append}
use Rattle.std.proofs.lemmas.Option.{slice_get_past, slice_get_within, get_or_from_slice_get, unwrap_or-slice_get}
use Rattle.vx_base.specs.declared.call.Call.{Call}
use Rattle.vx_base.specs.declared.call.Call.TheVariants as call
use Rattle.vx_base.specs.declared.mode.Logging.TheVariants as logging
use Rattle.vx_base.specs.Lines.{lines_of, line_after}
use Rattle.vx_core.specs.Facts as core
use Rattle.vx_core.specs.Works.{sum_below, line_count}
use Rattle.vx_dev.specs.Tape as dev
use Rattle.vx_grammar.specs.declared.script.Script.{Script}
use Rattle.vx_grammar.specs.declared.why.ScriptRefusal.{ScriptRefusal}
use Rattle.vx_grammar.specs.declared.why.ScriptRefusal.TheVariants as no
use Rattle.vx_grammar.specs.Forms.{name_of, IsScriptCall}
use Rattle.vx_grammar.specs.Keywords.{is_built}
use Rattle.vx_grammar.specs.Readings.{reading_of, most_bytes}
use Rattle.vx_grammar.specs.Scripts.{IsScript, IsScriptIn, IsBadOrder, IsRefusedFor}
use Rattle.vx_model.specs.Step.{is_of_names}
use Rattle.vx_modes.specs.declared.options.Options.{Options}
use Rattle.vx_modes.specs.declared.options.OptionRefusal.{OptionRefusal}
use Rattle.vx_modes.specs.declared.options.OptionRefusal.TheVariants as options
use Rattle.vx_modes.specs.Parse.{options_of}
use Rattle.vx_script.specs.Start.{start_of, start_of_options}
use Rattle.vx_script.specs.declared.start.StartRefusal.{StartRefusal}
use Rattle.vx_script.specs.declared.start.StartRefusal.TheVariants as start
use Rattle.vx_txn.specs.Calls.{HasMode}
use Rattle.vx_replay.specs.LogReads.{IsRead}
use Rattle.vx_run.specs.Words.{asked_of, logging_of, verb_of, with_verb}
use Rattle.vx_run.specs.declared.words.Asked.{Asked}
use Rattle.vx_run.specs.declared.words.Verb.{Verb}
use Rattle.vx_run.specs.Mounted.{IsBuilt}
use Rattle.vx_run.specs.Reads.{HasRead}
use Rattle.vx_run.specs.Ends.{Setting, Asks, HasBadLine, IsUnasked, HasEnded, refused}

abbrev failed : StartRefusal → Result Asked StartRefusal
failed why = Err why

bad_words : (s : Setting) (faults : ℕ) (why : StartRefusal) → failed start.BadWords ≡ Err why → asked_of s.words ≡ Err why → IsUnasked s faults why
bad_words s faults start.BadWords same is = is
bad_words s faults why same is = absurd (cc)

bad_option : (s : Setting) (faults : ℕ) (e : OptionRefusal) (why : StartRefusal) → failed (start_of_options e) ≡ Err why → asked_of s.words ≡ Err why → IsUnasked s faults why
bad_option s faults (options.BadOption at) (start.BadOption n) same is = is
bad_option s faults (options.Twice name) (start.Twice n) same is = is
bad_option s faults e why same is = absurd (cc)

-- ---- what was read of the source says what the whole script says

-- a script that is too long is so by its first 4,194,305 bytes
too_long : (bytes : List ℕ) → most_bytes < length bytes → reading_of bytes ≡ Err no.TooLong
unfolding reading_of
too_long bytes long = let test : nat_lt most_bytes (length bytes) ≡ true = grind (arith, nat_tests) in rw test refl

reading_of-take : (bytes : List ℕ) → reading_of (take 4194305 bytes) ≡ reading_of bytes
reading_of-take bytes = elim (cases_lt most_bytes (length bytes)) [
  | inl long ↦ too_long (take 4194305 bytes) (omega (arith, long, length-take 4194305 bytes)) ∙ sym (too_long bytes long)
  | inr short ↦ ap reading_of (take_all 4194305 bytes (omega (arith, short)))
]

same_reading : (all bytes : List ℕ) → bytes ≡ take 4194305 all → reading_of all ≡ reading_of bytes
same_reading all bytes h = sym (reading_of-take all) ∙ ap reading_of (sym h)

script_read : (left : Option (List ℕ)) (bytes : List ℕ) (script : Script) → HasRead left bytes → IsScriptIn bytes script → IfSome left (λ b. IsScriptIn b script)
script_read None bytes script h is = tt
script_read (Some all) bytes script h is = record { reading = is.reading; read = same_reading all bytes h ∙ is.read; says = is.says }

refusal_read : (left : Option (List ℕ)) (bytes : List ℕ) (why : ScriptRefusal) → HasRead left bytes → reading_of bytes ≡ Err why → IfSome left (λ b. reading_of b ≡ Err why)
refusal_read None bytes why h is = tt
refusal_read (Some all) bytes why h is = same_reading all bytes h ∙ is

bad_line_read : (left : Option (List ℕ)) (line : ℕ) (bytes : List ℕ) → HasRead left bytes → HasBadLine line bytes → IfSome left (HasBadLine line)
bad_line_read None line bytes h is = tt
bad_line_read (Some all) line bytes h is = (is.0, same_reading all bytes h ∙ is.1)

bad_order_read : (left : Option (List ℕ)) (line : ℕ) (bytes : List ℕ) → HasRead left bytes → IsBadOrder bytes line → IfSome left (λ b. IsBadOrder b line)
bad_order_read None line bytes h is = tt
bad_order_read (Some all) line bytes h is = record { reading = is.reading; read = same_reading all bytes h ∙ is.read; lowest = is.lowest }

pub asks_of : (s : Setting) (asked : Asked) (bytes : List ℕ) (script : Script) → asked_of s.words ≡ Ok asked → HasRead s.script bytes → IsScriptIn bytes script → Asks s asked script
asks_of s asked bytes script words h is = record { words = words; read = script_read s.script bytes script h is; form = is.says.form }

pub unasked_of : (s : Setting) (asked : Asked) (faults : ℕ) (bytes : List ℕ) (why : ScriptRefusal) → asked_of s.words ≡ Ok asked → HasRead s.script bytes → IsRefusedFor bytes why → IsUnasked s faults (start_of why)
unasked_of s asked faults bytes no.TooLong words h is = ((asked, words), refusal_read s.script bytes no.TooLong h is)
unasked_of s asked faults bytes (no.BadLine line why) words h is = ((asked, words), bad_line_read s.script line bytes h (why, is))
unasked_of s asked faults bytes (no.BadOrder line) words h is = ((asked, words), bad_order_read s.script line bytes h is)
unasked_of s asked faults bytes no.NoMemory words h is = (asked, words)

-- a device that nothing was done on
pub only_read : (old d : dev.State) → d ≡ old → IsRead old d
only_read old d same = record {
  told = ap (λ (x : dev.State). x.told) same;
  count = ap (λ (x : dev.State). x.count) same;
  doubt = ap (λ (x : dev.State). x.doubt) same;
  size = ap (λ (x : dev.State). x.size) same;
  writes = ap (λ (x : dev.State). x.write_faults) same;
  reads = (let faults : d.read_faults ≡ old.read_faults = ap (λ (x : dev.State). x.read_faults) same in omega (arith, faults));
}

pub ended_unasked : (s : Setting) (d : dev.State) (faults : ℕ) (why : StartRefusal) → IsUnasked s faults why → d ≡ s.device → HasEnded s d faults (refused why)
ended_unasked s d faults start.BadWords h same = (h, same)
ended_unasked s d faults (start.BadOption at) h same = (h, same)
ended_unasked s d faults (start.Twice name) h same = (h, same)
ended_unasked s d faults start.TooLong h same = (h, same)
ended_unasked s d faults (start.BadLine line) h same = (h, same)
ended_unasked s d faults (start.BadOrder line) h same = (h, same)
ended_unasked s d faults start.ScriptFault h same = (h, same)
ended_unasked s d faults start.NoMemory h same = (h, only_read s.device d same)
ended_unasked s d faults (start.DeviceTooSmall have want) h same = absurd h
ended_unasked s d faults (start.BadSuper field) h same = absurd h
ended_unasked s d faults (start.BadLog sector) h same = absurd h
ended_unasked s d faults (start.NotClean tail head) h same = absurd h
ended_unasked s d faults (start.BadMeta sector) h same = absurd h
ended_unasked s d faults (start.HasBytes ino) h same = absurd h
ended_unasked s d faults start.WriteFault h same = absurd h
ended_unasked s d faults start.ReadFault h same = absurd h

-- ---- words that ask for nothing

pub unasked_words : (s : Setting) (faults : ℕ) (words : List (List ℕ)) (why : StartRefusal) → s.words ≡ words → asked_of words ≡ Err why → IsUnasked s faults why
unfolding asked_of
unasked_words s faults (verb ∷ image ∷ []) why same is = by_verb (verb_of verb) why is (ap asked_of same ∙ is)
  where
    by_verb : (v : Option Verb) (w : StartRefusal) → with_verb v (Ok logging.DelayLog) ≡ Err w → asked_of s.words ≡ Err w → IsUnasked s faults w
    by_verb (Some v) w wrong asked = absurd (cc)
    by_verb None w wrong asked = bad_words s faults w wrong asked
unasked_words s faults (verb ∷ image ∷ option ∷ list ∷ []) why same is = by_verb (verb_of verb) (bytes_eq option (codes "-o")) (options_of list) why is (ap asked_of same ∙ is)
  where
    by_verb : (v : Option Verb) (b : Bool) (o : Result Options OptionRefusal) (w : StartRefusal) → with_verb v (if b then logging_of o else Err start.BadWords) ≡ Err w → asked_of s.words ≡ Err w → IsUnasked s faults w
    by_verb (Some v) true (Ok options) w wrong asked = absurd (cc)
    by_verb (Some v) true (Err e) w wrong asked = bad_option s faults e w wrong asked
    by_verb (Some v) false o w wrong asked = bad_words s faults w wrong asked
    by_verb None b o w wrong asked = bad_words s faults w wrong asked
unasked_words s faults words why same is = bad_words s faults why is (ap asked_of same ∙ is)

-- ---- the calls of a script

built : (c : Call) → is_built (name_of c) ≡ true → is_of_names c ≡ true
built (call.Create path mode) h = refl
built (call.Mkdir path mode) h = refl
built (call.Unlink path) h = refl
built (call.Rmdir path) h = refl
built (call.Link old new) h = refl
built (call.Rename old new) h = refl
built (call.Chmod path mode) h = refl
built (call.Stat path) h = refl
built (call.List path) h = refl
built call.Sync h = refl
built call.Tick h = refl
built (call.After session lines) h = refl
built call.Stop h = refl
built _ h = absurd cc

has_mode : (sessions : ℕ) (c : Call) → IsScriptCall sessions c → HasMode c
has_mode sessions (call.Create path mode) is = let test : nat_le mode 4095 ≡ true = is.range in grind (arith, nat_tests)
has_mode sessions (call.Mkdir path mode) is = let test : nat_le mode 4095 ≡ true = is.range in grind (arith, nat_tests)
has_mode sessions (call.Chmod path mode) is = let test : nat_le mode 4095 ≡ true = is.range in grind (arith, nat_tests)
has_mode sessions _ is = tt

-- ---- the lines of a script

each_line : (lines : List (List Call)) (P : Call → Type 0) → All (λ calls. All P calls) lines → (s n : ℕ) (c : Call) → line_after lines s n ≡ Some c → P c
unfolding line_after lines_of
each_line lines P all s n c is = by_session (slice_get lines s) refl is
  where
    by_session : (o : Option (List Call)) → slice_get lines s ≡ o → slice_get (unwrap_or o []) n ≡ Some c → P c
    by_session None e there = absurd (let within = slice_get_within [] n c there in omega arith)
    by_session (Some calls) e there =
        let own : All P calls = subst (λ (cs : List Call). All P cs) (get_or_from_slice_get lines s calls calls e) (all s calls (slice_get_within lines s calls e)) in
        subst P (get_or_from_slice_get calls n c c there) (own n c (slice_get_within calls n c there))

-- the sum over the first sessions
sum_first : (lines : List (List Call)) (n : ℕ) → n ≤ length lines → sum_below (λ s. length (lines_of lines s)) n ≡ sum_by (λ calls. length calls) (take n lines)
unfolding lines_of
sum_first lines zero le = refl
sum_first lines (suc n) le =
    let rest = sum_first lines n (omega arith) in
    let here : take (n + 1) lines ≡ take n lines ++ get_or lines n [] ∷ [] = take_more lines n [] (omega arith) in
    let next : n + 1 ≡ suc n = omega arith in
    let split = sum_by-append (λ (calls : List Call). length calls) (take n lines) (get_or lines n [] ∷ []) in
    let same : unwrap_or (slice_get lines n) [] ≡ get_or lines n [] = unwrap_or-slice_get lines n [] in
    let long : length (unwrap_or (slice_get lines n) []) ≡ length (get_or lines n []) = ap (λ (cs : List Call). length cs) same in
    let all : sum_by (λ calls. length calls) (take (suc n) lines) ≡ sum_by (λ calls. length calls) (take n lines) + length (get_or lines n []) = ap (λ k. sum_by (λ calls. length calls) (take k lines)) (sym next) ∙ ap (sum_by (λ calls. length calls)) here ∙ split ∙ one_more (sum_by (λ calls. length calls) (take n lines)) (length (get_or lines n [])) in
    omega arith
  where
    one_more : (a b : ℕ) → a + (0 + b) ≡ a + b
    one_more a b = omega arith

-- no session has more lines than all have
one_of_all : (lines : List (List Call)) (s n : ℕ) → s < n → length (lines_of lines s) ≤ sum_below (λ t. length (lines_of lines t)) n
one_of_all lines s zero lt = absurd (omega arith)
one_of_all lines s (suc n) lt = elim (cases_eq n s) [
  | inl same ↦ (let here : length (lines_of lines s) ≡ length (lines_of lines n) = ap (λ t. length (lines_of lines t)) (sym same) in omega arith)
  | inr other ↦ (let apart : n ≢ s = other in let rest = one_of_all lines s n (omega arith) in omega arith)
]

no_lines : (lines : List (List Call)) (s : ℕ) → length lines ≤ s → length (lines_of lines s) ≡ 0
unfolding lines_of
no_lines lines s ge = ap (λ (o : Option (List Call)). length (unwrap_or o [])) (slice_get_past lines s ge)

module _ (script : Script) (is : IsScript script) where
  pub all_lines : line_count script.lines ≤ 65535
  unfolding line_count
  all_lines =
      let sum = sum_first script.lines (length script.lines) (omega arith) in
      let all : sum_by (λ calls. length calls) (take (length script.lines) script.lines) ≡ sum_by (λ calls. length calls) script.lines = ap (sum_by (λ calls. length calls)) (take_all (length script.lines) script.lines (omega arith)) in
      let few = is.few_calls in
      omega arith

  pub short_lines : (s : ℕ) → length (lines_of script.lines s) < 65536
  unfolding line_count
  short_lines s = elim (cases_lt s (length script.lines)) [
    | inl lt ↦ (let one = one_of_all script.lines s (length script.lines) lt in let all : sum_below (λ t. length (lines_of script.lines t)) (length script.lines) ≤ 65535 = all_lines in omega arith)
    | inr ge ↦ (let none = no_lines script.lines s (omega arith) in omega arith)
  ]

  pub few_sessions : length script.lines ≤ 16
  few_sessions = let few = is.few_sessions in let count = is.count in omega arith

  pub core_script : core.IsScript IsBuilt script.lines
  core_script = record {
    order = is.ordered;
    each = λ s n c there. (let own : IsScriptCall script.sessions c = each_line script.lines (IsScriptCall script.sessions) is.each s n c there in (built c own.built, has_mode script.sessions c own));
    short = short_lines;
  }
