-- Paths and their components.
use Rattle.std.specs.Prelude.{ℕ, Bool, not, ◌&&◌, nat_eq, nat_le, List, [], ◌∷◌, length, Option, Some, None, bytes_eq, if◌then◌else◌}
use Rattle.std.specs.List.{list_any, list_all, slice_split}

abbrev pub FileName : Type 0
FileName = List ℕ

-- 1 to 255 bytes without NUL, and neither `.` nor `..`
abbrev pub is_name : FileName → Bool
is_name name =
    nat_le 1 (length name) && (nat_le (length name) 255 && (not (list_any (λ b. nat_eq b 0) name) && (not (bytes_eq name (46 ∷ [])) && not (bytes_eq name (46 ∷ 46 ∷ [])))))

-- the parts, where each is a name
abbrev pub if_names : List FileName → Option (List FileName)
if_names names = if list_all is_name names then Some names else None

-- the components of what stands after the first slash
abbrev pub components_after : List ℕ → Option (List FileName)
components_after [] = Some []
components_after (b ∷ rest) = if_names (slice_split (λ c. nat_eq c 47) (b ∷ rest))

-- the components after the first byte, which is to be a slash
abbrev pub components_of : List ℕ → Option (List FileName)
components_of [] = None
components_of (b ∷ rest) = if nat_eq b 47 then components_after rest else None

-- the components of a path of at most 1,023 bytes; none where it is no path
abbrev pub split : List ℕ → Option (List FileName)
split path = if nat_le (length path) 1023 then components_of path else None
