-- The words of the output.
use Rattle.std.specs.Prelude.{ℕ, ◌+◌, ◌-◌, ◌/◌, ◌%◌, Bool, ◌&&◌, not, ◌==◌, nat_le, nat_lt, List, [], ◌∷◌, ◌++◌, flat_map, decimal, codes, bit_and, if◌then◌else◌}
use Rattle.vx_script.specs.declared.words.Word.{Word}
use Rattle.vx_script.specs.declared.words.Word.TheVariants.{Text, Number, Mode, Name, Hex, Flags}

abbrev pub hex_digit : ℕ → ℕ
hex_digit n = if nat_lt n 10 then 48 + n else 87 + n

abbrev pub hex_pair : ℕ → List ℕ
hex_pair b = hex_digit (b / 16) ∷ hex_digit (b % 16) ∷ []

-- whether a byte of a name is printed as it is
abbrev pub is_plain : ℕ → Bool
is_plain b = nat_le 33 b && nat_le b 126 && not (b == 92)

abbrev pub escaped : ℕ → List ℕ
escaped b = if is_plain b then b ∷ [] else 92 ∷ 120 ∷ hex_pair b

-- the bytes of a name
abbrev pub name_text : List ℕ → List ℕ
name_text name = flat_map escaped name

abbrev pub hex_text : List ℕ → List ℕ
hex_text bytes = flat_map hex_pair bytes

-- the last octal digit of a number
abbrev pub octal_digit : ℕ → ℕ
octal_digit n = 48 + n % 8

-- four octal digits
abbrev pub mode_text : ℕ → List ℕ
mode_text mode = octal_digit (mode / 512) ∷ octal_digit (mode / 64) ∷ octal_digit (mode / 8) ∷ octal_digit mode ∷ []

-- the name of a flag where its bit is set, after a comma where a lower bit is set too
abbrev pub flag_text : (flags bit : ℕ) → List ℕ → List ℕ
flag_text flags bit name = if bit_and flags bit == 0 then [] else (if bit_and flags (bit - 1) == 0 then name else 44 ∷ name)

abbrev pub dash_text : ℕ → List ℕ
dash_text flags = if bit_and flags 31 == 0 then codes "-" else []

-- the names of the flags, in the order of their bits, or a dash
abbrev pub flags_text : ℕ → List ℕ
flags_text flags =
    flag_text flags 1 (codes "align")
    ++ (flag_text flags 2 (codes "contig")
    ++ (flag_text flags 4 (codes "noextend")
    ++ (flag_text flags 8 (codes "noreserve")
    ++ (flag_text flags 16 (codes "trim")
    ++ dash_text flags))))

abbrev pub text_of_word : Word → List ℕ
text_of_word (Text bytes) = bytes.now
text_of_word (Number n) = decimal n
text_of_word (Mode mode) = mode_text mode
text_of_word (Name bytes) = name_text bytes.now
text_of_word (Hex bytes) = hex_text bytes.now
text_of_word (Flags flags) = flags_text flags

-- a space and a word
abbrev pub spaced : List ℕ → List ℕ
spaced word = 32 ∷ word

abbrev pub spaced_name : List ℕ → List ℕ
spaced_name name = spaced (name_text name)

abbrev pub spaced_list : List (List ℕ) → List ℕ
spaced_list words = flat_map spaced words

abbrev pub spaced_words : List Word → List ℕ
spaced_words words = flat_map (λ word. spaced (text_of_word word)) words
