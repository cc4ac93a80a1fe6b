-- The calls that lines ask for.
use Rattle.std.specs.Prelude.{ℕ, ◌-◌, ◌^◌, ◌&&◌, nat_le, List, [], ◌∷◌, length, codes, Option, Some, None, Result, Ok, Err, if◌then◌else◌}
use Rattle.vx_base.specs.declared.call.Call.{Call}
use Rattle.vx_base.specs.declared.call.Call.TheVariants as call
use Rattle.vx_base.specs.declared.call.Payload.TheVariants as payload
use Rattle.vx_base.specs.Fits.{far}
use Rattle.vx_grammar.specs.declared.why.Why.{Why}
use Rattle.vx_grammar.specs.declared.why.Why.TheVariants as why
use Rattle.vx_grammar.specs.Words.{Word, is_word, number_of, line_count_of, mode_of, hex_of, byte_of}
use Rattle.vx_grammar.specs.Keywords.{flag_of, tunable_of, flags_of, command_of}
use Rattle.vx_grammar.specs.declared.keywords.CommandName.{CommandName}
use Rattle.vx_grammar.specs.declared.keywords.CommandName.TheVariants as name

-- A line is bad for the first of the whys that applies, in the order of `Why`. So a command looks at its words in that order.

abbrev pub Asked : Type 0
Asked = Result Call Why

-- what is spelled, or why the line is bad
abbrev pub need : {X Y : Type 0} → Why → Option X → (X → Result Y Why) → Result Y Why
need w None later = Err w
need w (Some x) later = later x

-- the greatest number of bytes that one call reads or writes
abbrev pub most_len : ℕ
most_len = 65536

-- ---- so many words

abbrev pub one_of : List Word → Option Word
one_of (a ∷ []) = Some a
one_of _ = None

abbrev pub two_of : List Word → Option (Word × Word)
two_of (a ∷ b ∷ []) = Some (a, b)
two_of _ = None

abbrev pub three_of : List Word → Option (Word × Word × Word)
three_of (a ∷ b ∷ c ∷ []) = Some (a, b, c)
three_of _ = None

abbrev pub four_of : List Word → Option (Word × Word × Word × Word)
four_of (a ∷ b ∷ c ∷ d ∷ []) = Some (a, b, c, d)
four_of _ = None

-- ---- by their words

abbrev pub no_words : Call → List Word → Asked
no_words c [] = Ok c
no_words c _ = Err why.Words

abbrev pub path_alone : List Word → Result (List ℕ) Why
path_alone words = need why.Words (one_of words) (λ w. need why.Escape w (λ p. Ok p))

abbrev pub path_and_mode : List Word → Result (List ℕ × ℕ) Why
path_and_mode words = need why.Words (two_of words) (λ w. need why.Number (mode_of w.1) (λ m. need why.Escape w.0 (λ p. Ok (p, m))))

abbrev pub two_paths : List Word → Result (List ℕ × List ℕ) Why
two_paths words = need why.Words (two_of words) (λ w. need why.Escape w.0 (λ o. need why.Escape w.1 (λ n. Ok (o, n))))

abbrev pub handle_of : Word → Option ℕ
handle_of word = number_of 0 255 word

abbrev pub handle_alone : List Word → Result ℕ Why
handle_alone words = need why.Words (one_of words) (λ w. need why.Number (handle_of w) (λ h. Ok h))

abbrev pub open_words : List Word → Asked
open_words words = need why.Words (three_of words) (λ w.
    need why.Words (flag_of w.2) (λ f. need why.Number (handle_of w.0) (λ h. need why.Escape w.1 (λ p. Ok (call.OpenFile h p f)))))

abbrev pub read_words : List Word → Asked
read_words words = need why.Words (three_of words) (λ w.
    need why.Number (handle_of w.0) (λ h. need why.Number (number_of 0 far w.1) (λ o. need why.Number (number_of 1 most_len w.2) (λ n. Ok (call.Read h o n)))))

abbrev pub truncate_words : List Word → Asked
truncate_words words = need why.Words (two_of words) (λ w. need why.Number (handle_of w.0) (λ h. need why.Number (number_of 0 far w.1) (λ n. Ok (call.Truncate h n))))

-- 1 to 65,536 bytes
abbrev pub few_bytes : List ℕ → Option (List ℕ)
few_bytes bytes = if nat_le 1 (length bytes) && nat_le (length bytes) most_len then Some bytes else None

abbrev pub hex_words : (handle offset : Word) → Word → Asked
hex_words handle offset content =
    need why.Number (handle_of handle) (λ h. need why.Number (number_of 0 far offset) (λ o. need why.Number (hex_of content) (λ b. Ok (call.Write h o (payload.Given b)))))

abbrev pub text_words : (handle offset : Word) → Word → Asked
text_words handle offset content =
    need why.Number (handle_of handle) (λ h. need why.Number (number_of 0 far offset) (λ o. need why.Escape content (λ t. need why.Number (few_bytes t) (λ b. Ok (call.Write h o (payload.Given b))))))

abbrev pub fill_words : (handle offset : Word) → (byte len : Word) → Asked
fill_words handle offset byte len =
    need why.Number (handle_of handle) (λ h. need why.Number (number_of 0 far offset) (λ o. need why.Number (byte_of byte) (λ b. need why.Number (number_of 1 most_len len) (λ n. Ok (call.Write h o (payload.Fill b n))))))

unfoldable pub write_words : List Word → Asked
write_words (handle ∷ offset ∷ kind ∷ content ∷ []) =
    if is_word kind (codes "hex") then hex_words handle offset content
    else if is_word kind (codes "text") then text_words handle offset content
    else Err why.Words
write_words (handle ∷ offset ∷ kind ∷ byte ∷ len ∷ []) = if is_word kind (codes "fill") then fill_words handle offset byte len else Err why.Words
write_words _ = Err why.Words

abbrev pub word_number : Word → Option ℕ
word_number word = number_of 0 (2 ^ 32 - 1) word

abbrev pub setext_words : List Word → Asked
setext_words words = need why.Words (four_of words) (λ w.
    need why.Words (flags_of w.3) (λ bits. need why.Number (word_number w.1) (λ f. need why.Number (word_number w.2) (λ r.
    need why.Escape w.0 (λ p. Ok (call.Setext p (record { fixed = f; reserve = r; flags = bits })))))))

abbrev pub tune_words : List Word → Asked
tune_words words = need why.Words (two_of words) (λ w. need why.Words (tunable_of w.0) (λ t. need why.Number (word_number w.1) (λ v. Ok (call.Tune t v))))

abbrev pub option_words : (option word : Word) → Asked
option_words option word =
    if is_word option (codes "-e") then need why.Escape word (λ p. Ok (call.Reorg p))
    else if is_word option (codes "-d") then need why.Escape word (λ p. Ok (call.DirReorg p))
    else if is_word option (codes "-E") then need why.Escape word (λ p. Ok (call.ExtReport p))
    else if is_word option (codes "-D") then need why.Escape word (λ p. Ok (call.DirReport p))
    else if is_word option (codes "-b") then need why.Number (number_of 1 64 word) (λ u. Ok (call.Resize u))
    else Err why.Words

abbrev pub fsadm_words : List Word → Asked
fsadm_words words = need why.Words (two_of words) (λ w. option_words w.0 w.1)

-- the session is one of so many
abbrev pub after_words : (sessions : ℕ) → List Word → Asked
after_words sessions words = need why.Words (two_of words) (λ w.
    need why.Number (number_of 0 (sessions - 1) w.0) (λ s. need why.Number (line_count_of w.1) (λ n. Ok (call.After s n))))

-- ---- by the command

abbrev pub made : {X : Type 0} → (X → Call) → Result X Why → Asked
made make (Ok x) = Ok (make x)
made make (Err w) = Err w

-- the call of a command with these words, in a script of so many sessions
unfoldable pub call_of : (sessions : ℕ) → CommandName → List Word → Asked
call_of sessions name.Create words = made (λ w. call.Create w.0 w.1) (path_and_mode words)
call_of sessions name.Mkdir words = made (λ w. call.Mkdir w.0 w.1) (path_and_mode words)
call_of sessions name.Chmod words = made (λ w. call.Chmod w.0 w.1) (path_and_mode words)
call_of sessions name.Unlink words = made call.Unlink (path_alone words)
call_of sessions name.Rmdir words = made call.Rmdir (path_alone words)
call_of sessions name.Stat words = made call.Stat (path_alone words)
call_of sessions name.List words = made call.List (path_alone words)
call_of sessions name.Link words = made (λ w. call.Link w.0 w.1) (two_paths words)
call_of sessions name.Rename words = made (λ w. call.Rename w.0 w.1) (two_paths words)
call_of sessions name.Open words = open_words words
call_of sessions name.Close words = made call.Close (handle_alone words)
call_of sessions name.Fsync words = made call.Fsync (handle_alone words)
call_of sessions name.Read words = read_words words
call_of sessions name.Write words = write_words words
call_of sessions name.Truncate words = truncate_words words
call_of sessions name.Sync words = no_words call.Sync words
call_of sessions name.Tick words = no_words call.Tick words
call_of sessions name.Stop words = no_words call.Stop words
call_of sessions name.After words = after_words sessions words
call_of sessions name.Setext words = setext_words words
call_of sessions name.Getext words = made call.Getext (path_alone words)
call_of sessions name.Tune words = tune_words words
call_of sessions name.Fsadm words = fsadm_words words

unfoldable pub command_call : (sessions : ℕ) → Word → List Word → Asked
command_call sessions command words = need why.Unknown (command_of command) (λ name. call_of sessions name words)
