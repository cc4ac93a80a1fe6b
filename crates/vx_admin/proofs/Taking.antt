-- The words that the command takes.
use Rattle.std.proofs.Common.{◌≡◌, ◌∙◌, true, refl, sym, ap, ap₂, subst, inl, inr, codes, List, [], ◌∷◌, Option, Some, None}
use Rattle.std.specs.Prelude.{option_and_then, option_map}
use Rattle.clap.specs.Words.{App, Row, Text, Kinds, IsAmong, HasKind, HasMatchesOf, fault_of, first_of, first_value, found_of, is_simple, is_simple_and_free, kind_of, matches_of, rows_of}
use Rattle.clap.specs.declared.error.kind.ErrorKind.{ErrorKind}
use Rattle.clap.specs.declared.error.kind.ErrorKind.TheVariants as kind
use Rattle.clap.specs.declared.error.Error.{Error}
use Rattle.clap.specs.declared.parser.matches.ArgMatches.{ArgMatches}
use Rattle.clap.proofs.OnLiterals.{clap_on_literals}
use Rattle.clap.proofs.WalkLemmas.{first_value-rows}
use Rattle.vx_admin.specs.Words.{command, taken, asked_in, asked_of, if_taken}

is_free : is_simple_and_free command ≡ true
unfolding clap_on_literals
is_free = refl

is_plain : is_simple command ≡ true
unfolding clap_on_literals
is_plain = refl

taken_none : (ks : Kinds) (rows : List Row) → ks ≡ [] → if_taken ks rows ≡ Some rows
taken_none ks rows e = ap (λ (k : Kinds). if_taken k rows) e

refused_none : (k : ErrorKind) (ks : Kinds) (rows : List Row) → IsAmong k ks → if_taken ks rows ≡ None
refused_none k [] rows h = absurd h
refused_none k (x ∷ xs) rows h = refl

pub rows_taken : (a : App) (words : List Text) (m : ArgMatches) → a ≡ command
    → (is_simple_and_free a ≡ true → fault_of a words ≡ []) → HasMatchesOf a words m → Some (rows_of (found_of m)) ≡ taken words
unfolding taken
rows_taken a words m is fine rows =
    let none : fault_of command words ≡ [] = subst (λ (x : App). is_simple_and_free x ≡ true → fault_of x words ≡ []) is fine is_free in
    let found : rows_of (found_of m) ≡ matches_of command words = (subst (λ (x : App). HasMatchesOf x words m) is rows is_plain).0 in
    ap (λ (r : List Row). Some r) found ∙ sym (taken_none (fault_of command words) (matches_of command words) none)

pub refused_taken : (a : App) (words : List Text) (e : Error) → a ≡ command → (is_simple_and_free a ≡ true → HasKind (fault_of a words) e) → (kind_of e ≡ kind.OutOfMemory → ⊥)
    → None ≡ taken words
unfolding taken
refused_taken a words e is fails other =
    elim (subst (λ (x : App). is_simple_and_free x ≡ true → HasKind (fault_of x words) e) is fails is_free) [
      | inl memory ↦ absurd (other memory)
      | inr h ↦ sym (refused_none (kind_of e) (fault_of command words) (matches_of command words) h)
    ]

-- what was found is what the command takes
pub rows_found : (words : List Text) (found : Option ArgMatches) (m : ArgMatches) → found ≡ Some m
    → option_map (λ (x : ArgMatches). rows_of (found_of x)) found ≡ taken words → Some (rows_of (found_of m)) ≡ taken words
rows_found words found m is e = sym (ap (option_map (λ (x : ArgMatches). rows_of (found_of x))) is) ∙ e

in_rows : (rows : List Row) (verb units log : Option Text) → verb ≡ first_of (codes "verb") rows → units ≡ first_of (codes "units") rows → log ≡ first_of (codes "log") rows
    → asked_of verb units log ≡ asked_in rows
unfolding asked_in
in_rows rows verb units log v u l = ap₂ (λ (x y : Option Text). asked_of x y log) v u ∙ ap (λ (z : Option Text). asked_of (first_of (codes "verb") rows) (first_of (codes "units") rows) z) l

pub asked_found : (words : List Text) (m : ArgMatches) (verb units log : Option Text) → Some (rows_of (found_of m)) ≡ taken words
    → verb ≡ first_value (found_of m) (codes "verb") → units ≡ first_value (found_of m) (codes "units") → log ≡ first_value (found_of m) (codes "log")
    → asked_of verb units log ≡ option_and_then asked_in (taken words)
asked_found words m verb units log is v u l =
    let read = λ (id : Text) (x : Option Text) (e : x ≡ first_value (found_of m) id). e ∙ first_value-rows (found_of m) id in
    in_rows (rows_of (found_of m)) verb units log (read (codes "verb") verb v) (read (codes "units") units u) (read (codes "log") log l)
    ∙ ap (λ (t : Option (List Row)). option_and_then asked_in t) is

pub image_found : (words : List Text) (m : ArgMatches) (image : Option Text) → Some (rows_of (found_of m)) ≡ taken words
    → image ≡ first_value (found_of m) (codes "image") → image ≡ option_and_then (first_of (codes "image")) (taken words)
image_found words m image is e = e ∙ first_value-rows (found_of m) (codes "image") ∙ ap (λ (t : Option (List Row)). option_and_then (first_of (codes "image")) t) is
