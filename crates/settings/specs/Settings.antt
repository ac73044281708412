-- What three words choose.
use Rattle.std.specs.Prelude.{◌≡◌, ℕ, List, [], ◌∷◌, ◌++◌, Ok, Err, codes, string_bytes, Result, ◌≢◌}
use Rattle.settings.specs.Names.{table_name, order_name, detection_name}
use Rattle.settings.specs.declared.setting.Setting.{Setting}
use Rattle.settings.specs.declared.setting.Wrong.{Wrong}
use Rattle.settings.specs.declared.setting.Wrong.TheVariants.{Unreadable, Count, Detection, Table, Order}

-- the word is the name of such a thing
abbrev pub IsName : {X : Type 0} → (X → List ℕ) → List ℕ → Type 0
IsName {X} name word = (x : X) × (word ≡ name x)

-- the word is no name of such a thing
abbrev pub IsNoName : {X : Type 0} → (X → List ℕ) → List ℕ → Type 0
IsNoName {X} name word = (x : X) → word ≢ name x

-- the word that is shown, in quotes
abbrev pub quoted : List ℕ → List ℕ
quoted word = codes "'" ++ (word ++ codes "'")

-- what an order has to be
abbrev pub order_words : List ℕ
order_words =
    codes "ORDER is newest, lightest or fewest, or two of these with a comma between, not "

-- what is wrong, as it is printed
abbrev pub wrong_words : Wrong → List ℕ
wrong_words Unreadable = codes "the arguments cannot be read as text"
wrong_words Count = codes "there have to be no arguments or three"
wrong_words (Detection word) =
    codes "DETECTION is continuous or periodic, not " ++ quoted (string_bytes word)
wrong_words (Table word) = codes "TABLE is two, five or span, not " ++ quoted (string_bytes word)
wrong_words (Order word) = order_words ++ quoted (string_bytes word)

-- of three words the first that is no name is told, as it stands
abbrev pub IsFirstWrong : List ℕ → List ℕ → List ℕ → Wrong → Type 0
IsFirstWrong detection table order Unreadable = ⊥
IsFirstWrong detection table order Count = ⊥
IsFirstWrong detection table order (Detection word) =
    IsNoName detection_name detection × (string_bytes word ≡ detection)
IsFirstWrong detection table order (Table word) =
    IsName detection_name detection × IsNoName table_name table × (string_bytes word ≡ table)
IsFirstWrong detection table order (Order word) =
    IsName detection_name detection × IsName table_name table
    × IsNoName order_name order × (string_bytes word ≡ order)

-- three words choose the setting that they name, part by part
abbrev pub Chooses : List ℕ → List ℕ → List ℕ → Result Setting Wrong → Type 0
Chooses detection table order (Ok s) =
    (detection ≡ detection_name s.detection)
    × (table ≡ table_name s.table)
    × (order ≡ order_name s.order)
Chooses detection table order (Err w) = IsFirstWrong detection table order w

-- three arguments choose a setting, and any other count of them is wrong
abbrev pub ReadsArguments : List (List ℕ) → Result Setting Wrong → Type 0
ReadsArguments (detection ∷ table ∷ order ∷ []) r = Chooses detection table order r
ReadsArguments _ r = r ≡ Err Count
