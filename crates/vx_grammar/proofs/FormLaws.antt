-- The form of each call that a line asks for.
use Rattle.std.proofs.Common.{◌≡◌, ℕ, ◌+◌, ◌-◌, ◌*◌, ◌<◌, ◌≤◌, ◌&&◌, nat_le, nat_lt, Bool, true, false, List, [], ◌∷◌, length, Option, Some, None, Result, Ok, Err, refl, sym, subst, arith}
use Rattle.std.specs.Prelude.{All, IfOk, bit_and, bit_or, codes, ◌==◌, if◌then◌else◌}
use Rattle.std.specs.List.{list_all, slice_split}
use Rattle.std.specs.Str.{bytes_eq}
use Rattle.std.proofs.lemmas.Nat.{or_lt}
use Rattle.std.proofs.lemmas.Bool.Decides.{nat_tests}
use Rattle.std.proofs.lemmas.List.Sums.{AllPass-from_list_all}
use Rattle.vx_base.specs.declared.call.Call.{Call}
use Rattle.vx_base.specs.declared.call.Call.TheVariants as call
use Rattle.vx_base.specs.declared.call.Payload.{Payload}
use Rattle.vx_base.specs.declared.call.Payload.TheVariants as payload
use Rattle.vx_base.specs.Fits.{far, payload_len, write_fits}
use Rattle.vx_grammar.specs.declared.keywords.CommandName.{CommandName}
use Rattle.vx_grammar.specs.declared.keywords.CommandName.TheVariants as name
use Rattle.vx_grammar.specs.declared.why.Why.{Why}
use Rattle.vx_grammar.specs.declared.why.Why.TheVariants as why
use Rattle.vx_grammar.specs.Words.{Word, is_word, is_hex, hex_value, hex_from, hex_of, prepended, is_octal, is_mode, octal_value, mode_of, is_decimal, decimal_value, number_of, byte_of, line_count_of}
use Rattle.vx_grammar.specs.Keywords.{is_comma, bit_of, with_flag, and_more, bits_after, flags_of, is_built, built, spelled_command, command_of, tunable_of, flag_of}
use Rattle.vx_grammar.specs.Commands.{Asked, need, made, two_of, three_of, four_of, no_words, path_alone, path_and_mode, two_paths, handle_of, handle_alone, open_words, read_words, truncate_words, few_bytes, hex_words, text_words, fill_words, write_words, word_number, setext_words, tune_words, option_words, fsadm_words, after_words, call_of, command_call}
use Rattle.vx_grammar.specs.Forms.{name_of, IsInRange, IsScriptCall}

-- ---- choices

-- what a chosen option has
pub chosen : {X : Type 0} (b : Bool) (x y : X) → (if b then Some x else None) ≡ Some y → (b ≡ true) × (x ≡ y)
chosen true x y h = (refl, cc)
chosen false x y h = absurd (cc)

taken : {X : Type 0} (b : Bool) (o : Option X) (x : X) → (if b then o else None) ≡ Some x → (b ≡ true) × (o ≡ Some x)
taken true o x h = (refl, h)
taken false o x h = absurd (cc)

pub both : (a b : Bool) → (a && b) ≡ true → (a ≡ true) × (b ≡ true)
both true b h = (refl, h)
both false b h = absurd (cc)

and_true : (a b : Bool) → a ≡ true → b ≡ true → (a && b) ≡ true
and_true true b h k = k
and_true false b h k = absurd (cc)

le_true : (a b : ℕ) → a ≤ b → nat_le a b ≡ true
le_true a b h = grind (arith, nat_tests)

true_le : (a b : ℕ) → nat_le a b ≡ true → a ≤ b
true_le a b h = grind (arith, nat_tests)

lt_true : (a b : ℕ) → a < b → nat_lt a b ≡ true
lt_true a b h = grind (arith, nat_tests)

-- ---- numbers

-- a number is in its range
pub number_small : (least greatest : ℕ) (word : Word) (n : ℕ) → number_of least greatest word ≡ Some n → (least ≤ n) × (n ≤ greatest)
unfolding number_of
number_small least greatest None n h = absurd (cc)
number_small least greatest (Some digits) n h =
    let value = decimal_value digits in
    let front = is_decimal digits && nat_le (length digits) 13 && nat_le least value in
    let a = chosen (front && nat_le value greatest) value n h in
    let b = both front (nat_le value greatest) a.0 in
    let c = both (is_decimal digits && nat_le (length digits) 13) (nat_le least value) b.0 in
    (subst (λ x. least ≤ x) a.1 (true_le least value c.1), subst (λ x. x ≤ greatest) a.1 (true_le value greatest b.1))

-- at most four octal digits have a value of at most 7777
value_small : (digits : List ℕ) → length digits ≤ 4 → All (λ b. b ≤ 55) digits → octal_value digits ≤ 4095
value_small [] h d = omega arith
value_small (a ∷ []) h d = omega (arith, d 0 0 (omega arith))
value_small (a ∷ b ∷ []) h d = omega (arith, d 0 0 (omega arith), d 1 0 (omega arith))
value_small (a ∷ b ∷ e ∷ []) h d = omega (arith, d 0 0 (omega arith), d 1 0 (omega arith), d 2 0 (omega arith))
value_small (a ∷ b ∷ e ∷ f ∷ []) h d = omega (arith, d 0 0 (omega arith), d 1 0 (omega arith), d 2 0 (omega arith), d 3 0 (omega arith))
value_small (a ∷ b ∷ e ∷ f ∷ g ∷ rest) h d = absurd (omega arith)

octal_small : (b : ℕ) → is_octal b ≡ true → b ≤ 55
octal_small b h = grind (arith, nat_tests)

mode_value : (digits : List ℕ) → is_mode digits ≡ true → octal_value digits ≤ 4095
mode_value digits h =
    let some = nat_le 1 (length digits) in
    let few = nat_le (length digits) 4 in
    let a = both (some && few) (list_all is_octal digits) h in
    let b = both some few a.0 in
    value_small digits (true_le (length digits) 4 b.1) (λ k d lt. octal_small _ (AllPass-from_list_all is_octal digits a.1 k d lt))

mode_small : (word : Word) (mode : ℕ) → mode_of word ≡ Some mode → mode ≤ 4095
unfolding mode_of
mode_small None mode h = absurd (cc)
mode_small (Some digits) mode h =
    let a = chosen (is_mode digits) (octal_value digits) mode h in
    subst (λ x. x ≤ 4095) a.1 (mode_value digits a.0)

-- ---- bytes

few_small : (bytes b : List ℕ) → few_bytes bytes ≡ Some b → (1 ≤ length b) × (length b ≤ 65536)
few_small bytes b h =
    let a = chosen (nat_le 1 (length bytes) && nat_le (length bytes) 65536) bytes b h in
    let c = both (nat_le 1 (length bytes)) (nat_le (length bytes) 65536) a.0 in
    (subst (λ (x : List ℕ). 1 ≤ length x) a.1 (true_le 1 (length bytes) c.0), subst (λ (x : List ℕ). length x ≤ 65536) a.1 (true_le (length bytes) 65536 c.1))

abbrev digits_before : Option ℕ → ℕ
digits_before None = 0
digits_before (Some high) = 1

record IsAfterFirst (v : ℕ) (o : Option (List ℕ)) (b : List ℕ) : Type 0 where
  rest : List ℕ
  found : o ≡ Some rest
  whole : v ∷ rest ≡ b

after_first_byte : (v : ℕ) (o : Option (List ℕ)) (b : List ℕ) → prepended v o ≡ Some b → IsAfterFirst v o b
after_first_byte v None b h = absurd (cc)
after_first_byte v (Some rest) b h = record { rest = rest; found = refl; whole = cc }

-- two digits for each byte
hex_length : (high : Option ℕ) (digits b : List ℕ) → hex_from high digits ≡ Some b → length digits + digits_before high ≡ 2 * length b
hex_length None [] b h = let none : [] ≡ b = cc in subst (λ (x : List ℕ). 0 ≡ 2 * length x) none refl
hex_length (Some high) [] b h = absurd (cc)
hex_length None (d ∷ rest) b h =
    let a = taken (is_hex d) (hex_from (Some (hex_value d)) rest) b h in
    let more = hex_length (Some (hex_value d)) rest b a.1 in
    omega arith
hex_length (Some high) (d ∷ rest) b h =
    let a = taken (is_hex d) (prepended (high * 16 + hex_value d) (hex_from None rest)) b h in
    let p = after_first_byte (high * 16 + hex_value d) (hex_from None rest) b a.1 in
    let more = hex_length None rest p.rest p.found in
    let long : length b ≡ length p.rest + 1 = subst (λ (x : List ℕ). length x ≡ length p.rest + 1) p.whole (omega arith) in
    omega arith

hex_small : (word : Word) (b : List ℕ) → hex_of word ≡ Some b → (1 ≤ length b) × (length b ≤ 65536)
unfolding hex_of
hex_small None b h = absurd (cc)
hex_small (Some digits) b h =
    let a = taken (nat_le 1 (length digits) && nat_le (length digits) 131072) (hex_from None digits) b h in
    let c = both (nat_le 1 (length digits)) (nat_le (length digits) 131072) a.0 in
    let twice : length digits + 0 ≡ 2 * length b = hex_length None digits b a.1 in
    (omega (arith, true_le 1 (length digits) c.0), omega (arith, true_le (length digits) 131072 c.1))

-- ---- flags

small_choice : (b : Bool) (x y : ℕ) → x < 64 → y < 64 → (if b then x else y) < 64
small_choice true x y h k = h
small_choice false x y h k = k

bit_small : (name : List ℕ) → bit_of name < 64
bit_small name =
    small_choice (bytes_eq name (codes "align")) 1 _ (omega arith) (small_choice (bytes_eq name (codes "contig")) 2 _ (omega arith) (small_choice (bytes_eq name (codes "noextend")) 4 _ (omega arith)
    (small_choice (bytes_eq name (codes "noreserve")) 8 _ (omega arith) (small_choice (bytes_eq name (codes "trim")) 16 _ (omega arith) (small_choice (bytes_eq name (codes "chgsize")) 32 0 (omega arith) (omega arith))))))

with_small : (a b : Bool) (x more : ℕ) → x < 64 → (if a then None else if b then Some x else None) ≡ Some more → more < 64
with_small true b x more h e = absurd (cc)
with_small false b x more h e = let a = chosen b x more e in subst (λ n. n < 64) a.1 h

with_flag_small : (bits : ℕ) (name : List ℕ) (more : ℕ) → bits < 64 → with_flag bits name ≡ Some more → more < 64
with_flag_small bits name more h e =
    with_small (bit_of name == 0) (bit_and bits (bit_of name) == 0) (bit_or bits (bit_of name)) more (or_lt 6 bits (bit_of name) h (bit_small name)) e

record IsFlagFirst (o : Option ℕ) (later : ℕ → Option ℕ) (all : ℕ) : Type 0 where
  more : ℕ
  found : o ≡ Some more
  rest : later more ≡ Some all

flag_first : (o : Option ℕ) (later : ℕ → Option ℕ) (all : ℕ) → and_more o later ≡ Some all → IsFlagFirst o later all
flag_first None later all h = absurd (cc)
flag_first (Some more) later all h = record { more = more; found = refl; rest = h }

bits_small : (bits : ℕ) (names : List (List ℕ)) (all : ℕ) → bits < 64 → bits_after bits names ≡ Some all → all < 64
bits_small bits [] all h e = let same : bits ≡ all = cc in subst (λ n. n < 64) same h
bits_small bits (name ∷ names) all h e =
    let f = flag_first (with_flag bits name) (λ more. bits_after more names) all e in
    bits_small f.more names all (with_flag_small bits name f.more h f.found) f.rest

dash_small : (b : Bool) (o : Option ℕ) (all : ℕ) → ((n : ℕ) → o ≡ Some n → n < 64) → (if b then Some 0 else o) ≡ Some all → all < 64
dash_small true o all h e = let none : 0 ≡ all = cc in subst (λ n. n < 64) none (omega arith)
dash_small false o all h e = h all e

flags_small : (word : Word) (bits : ℕ) → flags_of word ≡ Some bits → bits < 64
unfolding flags_of
flags_small None bits h = absurd (cc)
flags_small (Some word) bits h = dash_small (bytes_eq word (codes "-")) (bits_after 0 (slice_split is_comma word)) bits (λ n e. bits_small 0 (slice_split is_comma word) n (omega arith) e) h

-- ---- what is read has a form

pub record Holds {X : Type 0} (P : X → Type 0) (read : Result X Why) : Type 0 where
  pub holds : IfOk read P

need_holds : {X Y : Type 0} (P : Y → Type 0) (w : Why) (o : Option X) (later : X → Result Y Why) → ((x : X) → o ≡ Some x → Holds P (later x)) → Holds P (need w o later)
need_holds P w None later h = record { holds = tt }
need_holds P w (Some x) later h = h x refl

-- where nothing is asked of the value
some_holds : {X Y : Type 0} (P : Y → Type 0) (w : Why) (o : Option X) (later : X → Result Y Why) → ((x : X) → Holds P (later x)) → Holds P (need w o later)
some_holds P w None later h = record { holds = tt }
some_holds P w (Some x) later h = h x

made_holds : {X : Type 0} (Q : X → Type 0) (P : Call → Type 0) (make : X → Call) (read : Result X Why) → Holds Q read → ((x : X) → Q x → P (make x)) → Holds P (made make read)
made_holds Q P make (Ok x) h k = record { holds = k x h.holds }
made_holds Q P make (Err w) h k = record { holds = tt }

choice_holds : {X : Type 0} (P : X → Type 0) (b : Bool) (x y : Result X Why) → Holds P x → Holds P y → Holds P (if b then x else y)
choice_holds P true x y h k = h
choice_holds P false x y h k = k

bad_holds : {X : Type 0} (P : X → Type 0) (w : Why) → Holds P (Err w)
bad_holds P w = record { holds = tt }

any_holds : {X : Type 0} (read : Result X Why) → Holds (λ x. Unit {0}) read
any_holds (Ok x) = record { holds = tt }
any_holds (Err w) = record { holds = tt }

-- a call of this command, with its numbers in their ranges
pub record IsOf (sessions : ℕ) (n : CommandName) (c : Call) : Type 0 where
  pub named : name_of c ≡ n
  pub range : IsInRange sessions c

plain : (sessions : ℕ) (n : CommandName) (c : Call) → name_of c ≡ n → IsInRange sessions c → Holds (IsOf sessions n) (Ok c)
plain sessions n c e r = record { holds = record { named = e; range = r } }

-- ---- the words of each command

no_words_form : (sessions : ℕ) (n : CommandName) (c : Call) (words : List Word) → name_of c ≡ n → IsInRange sessions c → Holds (IsOf sessions n) (no_words c words)
no_words_form sessions n c [] e r = plain sessions n c e r
no_words_form sessions n c (w ∷ words) e r = bad_holds (IsOf sessions n) why.Words

mode_form : (words : List Word) → Holds (λ (w : List ℕ × ℕ). w.1 ≤ 4095) (path_and_mode words)
mode_form words = some_holds _ why.Words (two_of words) _ (λ w. need_holds _ why.Number (mode_of w.1) _ (λ m e. some_holds _ why.Escape w.0 _ (λ p. record { holds = mode_small w.1 m e })))

open_form : (sessions : ℕ) (words : List Word) → Holds (IsOf sessions name.Open) (open_words words)
open_form sessions words = some_holds _ why.Words (three_of words) _ (λ w. some_holds _ why.Words (flag_of w.2) _ (λ f. some_holds _ why.Number (handle_of w.0) _ (λ h. some_holds _ why.Escape w.1 _ (λ p.
    plain sessions name.Open (call.OpenFile h p f) refl refl))))

read_form : (sessions : ℕ) (words : List Word) → Holds (IsOf sessions name.Read) (read_words words)
read_form sessions words = some_holds _ why.Words (three_of words) _ (λ w. some_holds _ why.Number (handle_of w.0) _ (λ h. need_holds _ why.Number (number_of 0 far w.1) _ (λ o e. need_holds _ why.Number (number_of 1 65536 w.2) _ (λ n g.
    let offset = number_small 0 far w.1 o e in
    let len = number_small 1 65536 w.2 n g in
    plain sessions name.Read (call.Read h o n) refl (len.0, and_true (nat_le o far) (nat_le n 65536) (le_true o far offset.1) (le_true n 65536 len.1))))))

truncate_form : (sessions : ℕ) (words : List Word) → Holds (IsOf sessions name.Truncate) (truncate_words words)
truncate_form sessions words = some_holds _ why.Words (two_of words) _ (λ w. some_holds _ why.Number (handle_of w.0) _ (λ h. need_holds _ why.Number (number_of 0 far w.1) _ (λ n e.
    plain sessions name.Truncate (call.Truncate h n) refl (le_true n far (number_small 0 far w.1 n e).1))))

write_fits_of : (offset : ℕ) (p : Payload) → offset ≤ far → 1 ≤ payload_len p → payload_len p ≤ 65536 → write_fits offset p ≡ true
write_fits_of offset p h k l =
    and_true (nat_le offset far) (nat_le 1 (payload_len p) && nat_le (payload_len p) 65536) (le_true offset far h) (and_true (nat_le 1 (payload_len p)) (nat_le (payload_len p) 65536) (le_true 1 (payload_len p) k) (le_true (payload_len p) 65536 l))

hex_form : (sessions : ℕ) (handle offset content : Word) → Holds (IsOf sessions name.Write) (hex_words handle offset content)
hex_form sessions handle offset content =
    some_holds _ why.Number (handle_of handle) _ (λ h. need_holds _ why.Number (number_of 0 far offset) _ (λ o e. need_holds _ why.Number (hex_of content) _ (λ b g.
    let len = hex_small content b g in
    plain sessions name.Write (call.Write h o (payload.Given b)) refl (write_fits_of o (payload.Given b) (number_small 0 far offset o e).1 len.0 len.1))))

text_form : (sessions : ℕ) (handle offset content : Word) → Holds (IsOf sessions name.Write) (text_words handle offset content)
text_form sessions handle offset content =
    some_holds _ why.Number (handle_of handle) _ (λ h. need_holds _ why.Number (number_of 0 far offset) _ (λ o e. some_holds _ why.Escape content _ (λ t. need_holds _ why.Number (few_bytes t) _ (λ b g.
    let len = few_small t b g in
    plain sessions name.Write (call.Write h o (payload.Given b)) refl (write_fits_of o (payload.Given b) (number_small 0 far offset o e).1 len.0 len.1)))))

fill_form : (sessions : ℕ) (handle offset byte len : Word) → Holds (IsOf sessions name.Write) (fill_words handle offset byte len)
fill_form sessions handle offset byte len =
    some_holds _ why.Number (handle_of handle) _ (λ h. need_holds _ why.Number (number_of 0 far offset) _ (λ o e. some_holds _ why.Number (byte_of byte) _ (λ b. need_holds _ why.Number (number_of 1 65536 len) _ (λ n g.
    let few = number_small 1 65536 len n g in
    plain sessions name.Write (call.Write h o (payload.Fill b n)) refl (write_fits_of o (payload.Fill b n) (number_small 0 far offset o e).1 few.0 few.1)))))

write_form : (sessions : ℕ) (words : List Word) → Holds (IsOf sessions name.Write) (write_words words)
unfolding write_words
write_form sessions (handle ∷ offset ∷ kind ∷ content ∷ []) =
    choice_holds (IsOf sessions name.Write) (is_word kind (codes "hex")) _ _ (hex_form sessions handle offset content)
    (choice_holds (IsOf sessions name.Write) (is_word kind (codes "text")) _ _ (text_form sessions handle offset content) (bad_holds (IsOf sessions name.Write) why.Words))
write_form sessions (handle ∷ offset ∷ kind ∷ byte ∷ len ∷ []) =
    choice_holds (IsOf sessions name.Write) (is_word kind (codes "fill")) _ _ (fill_form sessions handle offset byte len) (bad_holds (IsOf sessions name.Write) why.Words)
write_form sessions _ = record { holds = tt }

setext_form : (sessions : ℕ) (words : List Word) → Holds (IsOf sessions name.Setext) (setext_words words)
setext_form sessions words = some_holds _ why.Words (four_of words) _ (λ w. need_holds _ why.Words (flags_of w.3) _ (λ bits e. some_holds _ why.Number (word_number w.1) _ (λ f. some_holds _ why.Number (word_number w.2) _ (λ r. some_holds _ why.Escape w.0 _ (λ p.
    let few = flags_small w.3 bits e in
    plain sessions name.Setext (call.Setext p (record { fixed = f; reserve = r; flags = bits })) refl (lt_true bits 64 few))))))

tune_form : (sessions : ℕ) (words : List Word) → Holds (IsOf sessions name.Tune) (tune_words words)
tune_form sessions words = some_holds _ why.Words (two_of words) _ (λ w. some_holds _ why.Words (tunable_of w.0) _ (λ t. some_holds _ why.Number (word_number w.1) _ (λ v. plain sessions name.Tune (call.Tune t v) refl refl)))

path_option : (sessions : ℕ) (make : List ℕ → Call) (word : Word) → ((p : List ℕ) → name_of (make p) ≡ name.Fsadm) → ((p : List ℕ) → IsInRange sessions (make p)) → Holds (IsOf sessions name.Fsadm) (need why.Escape word (λ p. Ok (make p)))
path_option sessions make word named range = some_holds _ why.Escape word _ (λ p. plain sessions name.Fsadm (make p) (named p) (range p))

units_form : (sessions : ℕ) (word : Word) → Holds (IsOf sessions name.Fsadm) (need why.Number (number_of 1 64 word) (λ u. Ok (call.Resize u)))
units_form sessions word = need_holds _ why.Number (number_of 1 64 word) _ (λ u e.
    let few = number_small 1 64 word u e in
    plain sessions name.Fsadm (call.Resize u) refl (and_true (nat_le 1 u) (nat_le u 64) (le_true 1 u few.0) (le_true u 64 few.1)))

option_form : (sessions : ℕ) (option word : Word) → Holds (IsOf sessions name.Fsadm) (option_words option word)
option_form sessions option word =
    choice_holds (IsOf sessions name.Fsadm) (is_word option (codes "-e")) _ _ (path_option sessions call.Reorg word (λ p. refl) (λ p. refl))
    (choice_holds (IsOf sessions name.Fsadm) (is_word option (codes "-d")) _ _ (path_option sessions call.DirReorg word (λ p. refl) (λ p. refl))
    (choice_holds (IsOf sessions name.Fsadm) (is_word option (codes "-E")) _ _ (path_option sessions call.ExtReport word (λ p. refl) (λ p. refl))
    (choice_holds (IsOf sessions name.Fsadm) (is_word option (codes "-D")) _ _ (path_option sessions call.DirReport word (λ p. refl) (λ p. refl))
    (choice_holds (IsOf sessions name.Fsadm) (is_word option (codes "-b")) _ _ (units_form sessions word) (bad_holds (IsOf sessions name.Fsadm) why.Words)))))

fsadm_form : (sessions : ℕ) (words : List Word) → Holds (IsOf sessions name.Fsadm) (fsadm_words words)
fsadm_form sessions words = some_holds _ why.Words (two_of words) _ (λ w. option_form sessions w.0 w.1)

after_form : (sessions : ℕ) (words : List Word) → 1 ≤ sessions → Holds (IsOf sessions name.After) (after_words sessions words)
after_form sessions words some = some_holds _ why.Words (two_of words) _ (λ w. need_holds _ why.Number (number_of 0 (sessions - 1) w.0) _ (λ s e. some_holds _ why.Number (line_count_of w.1) _ (λ n.
    plain sessions name.After (call.After s n) refl (omega (arith, number_small 0 (sessions - 1) w.0 s e)))))

-- ---- the call of a command

of_path : (sessions : ℕ) (n : CommandName) (make : List ℕ → Call) (words : List Word) → ((p : List ℕ) → name_of (make p) ≡ n) → ((p : List ℕ) → IsInRange sessions (make p)) → Holds (IsOf sessions n) (made make (path_alone words))
of_path sessions n make words named range = made_holds (λ p. Unit {0}) (IsOf sessions n) make (path_alone words) (any_holds (path_alone words)) (λ p u. record { named = named p; range = range p })

of_mode : (sessions : ℕ) (n : CommandName) (make : List ℕ × ℕ → Call) (words : List Word) → ((w : List ℕ × ℕ) → name_of (make w) ≡ n) → ((w : List ℕ × ℕ) → w.1 ≤ 4095 → IsInRange sessions (make w)) → Holds (IsOf sessions n) (made make (path_and_mode words))
of_mode sessions n make words named range = made_holds (λ (w : List ℕ × ℕ). w.1 ≤ 4095) (IsOf sessions n) make (path_and_mode words) (mode_form words) (λ w h. record { named = named w; range = range w h })

of_paths : (sessions : ℕ) (n : CommandName) (make : List ℕ × List ℕ → Call) (words : List Word) → ((w : List ℕ × List ℕ) → name_of (make w) ≡ n) → ((w : List ℕ × List ℕ) → IsInRange sessions (make w)) → Holds (IsOf sessions n) (made make (two_paths words))
of_paths sessions n make words named range = made_holds (λ w. Unit {0}) (IsOf sessions n) make (two_paths words) (any_holds (two_paths words)) (λ w u. record { named = named w; range = range w })

of_handle : (sessions : ℕ) (n : CommandName) (make : ℕ → Call) (words : List Word) → ((h : ℕ) → name_of (make h) ≡ n) → ((h : ℕ) → IsInRange sessions (make h)) → Holds (IsOf sessions n) (made make (handle_alone words))
of_handle sessions n make words named range = made_holds (λ h. Unit {0}) (IsOf sessions n) make (handle_alone words) (any_holds (handle_alone words)) (λ h u. record { named = named h; range = range h })

call_form : (sessions : ℕ) (n : CommandName) (words : List Word) → 1 ≤ sessions → Holds (IsOf sessions n) (call_of sessions n words)
unfolding call_of
call_form sessions name.Create words some = of_mode sessions name.Create (λ w. call.Create w.0 w.1) words (λ w. refl) (λ w h. le_true w.1 4095 h)
call_form sessions name.Mkdir words some = of_mode sessions name.Mkdir (λ w. call.Mkdir w.0 w.1) words (λ w. refl) (λ w h. le_true w.1 4095 h)
call_form sessions name.Chmod words some = of_mode sessions name.Chmod (λ w. call.Chmod w.0 w.1) words (λ w. refl) (λ w h. le_true w.1 4095 h)
call_form sessions name.Unlink words some = of_path sessions name.Unlink call.Unlink words (λ p. refl) (λ p. refl)
call_form sessions name.Rmdir words some = of_path sessions name.Rmdir call.Rmdir words (λ p. refl) (λ p. refl)
call_form sessions name.Stat words some = of_path sessions name.Stat call.Stat words (λ p. refl) (λ p. refl)
call_form sessions name.List words some = of_path sessions name.List call.List words (λ p. refl) (λ p. refl)
call_form sessions name.Link words some = of_paths sessions name.Link (λ w. call.Link w.0 w.1) words (λ w. refl) (λ w. refl)
call_form sessions name.Rename words some = of_paths sessions name.Rename (λ w. call.Rename w.0 w.1) words (λ w. refl) (λ w. refl)
call_form sessions name.Open words some = open_form sessions words
call_form sessions name.Close words some = of_handle sessions name.Close call.Close words (λ h. refl) (λ h. refl)
call_form sessions name.Fsync words some = of_handle sessions name.Fsync call.Fsync words (λ h. refl) (λ h. refl)
call_form sessions name.Read words some = read_form sessions words
call_form sessions name.Write words some = write_form sessions words
call_form sessions name.Truncate words some = truncate_form sessions words
call_form sessions name.Sync words some = no_words_form sessions name.Sync call.Sync words refl refl
call_form sessions name.Tick words some = no_words_form sessions name.Tick call.Tick words refl refl
call_form sessions name.Stop words some = no_words_form sessions name.Stop call.Stop words refl tt
call_form sessions name.After words some = after_form sessions words some
call_form sessions name.Setext words some = setext_form sessions words
call_form sessions name.Getext words some = of_path sessions name.Getext call.Getext words (λ p. refl) (λ p. refl)
call_form sessions name.Tune words some = tune_form sessions words
call_form sessions name.Fsadm words some = fsadm_form sessions words

built_is : (o : Option CommandName) (n : CommandName) → built o ≡ Some n → is_built n ≡ true
built_is None n h = absurd (cc)
built_is (Some command) n h = let a = chosen (is_built command) command n h in subst (λ x. is_built x ≡ true) a.1 a.0

command_built : (word : Word) (n : CommandName) → command_of word ≡ Some n → is_built n ≡ true
unfolding command_of
command_built word n h = built_is (spelled_command word) n h

script_call : (sessions : ℕ) (n : CommandName) (read : Asked) → is_built n ≡ true → Holds (IsOf sessions n) read → Holds (IsScriptCall sessions) read
script_call sessions n (Ok c) b h = record { holds = record { built = subst (λ x. is_built x ≡ true) (sym h.holds.named) b; range = h.holds.range } }
script_call sessions n (Err w) b h = record { holds = tt }

-- each call that is read has the form of its command
pub command_form : (sessions : ℕ) (command : Word) (words : List Word) → 1 ≤ sessions → Holds (IsScriptCall sessions) (command_call sessions command words)
unfolding command_call
command_form sessions command words some = need_holds _ why.Unknown (command_of command) _ (λ n e. script_call sessions n (call_of sessions n words) (command_built command n e) (call_form sessions n words some))

-- what an Ok has
pub held : {X : Type 0} (P : X → Type 0) (read : Result X Why) (x : X) → read ≡ Ok x → Holds P read → P x
held P read x e h = subst (λ r. IfOk r P) e h.holds
