-- The register as its history: the accepted commands, the last one first. `entry ∷ A` is A with the entry accepted
-- after it.
use Rattle.std.specs.Prelude.{ℕ, Bool, nat_le, List, [], ◌∷◌, length, filter, Option, Some, None, find, max, if◌then◌else◌}
use Rattle.std.specs.List.{list_any, filter_map}
use Rattle.kcr_base.specs.{Rows.option_or, Same.same_text}
use Rattle.kcr_history.specs.declared.commands.{Act.Act, Entry.Entry}

abbrev pub History : Type 0
History = List Entry

-- some accepted command passes the test
abbrev pub has_command : (Act → Bool) → History → Bool
has_command test A = list_any (λ entry. test entry.command.act) A

-- how many accepted commands pass the test
abbrev pub command_count : (Act → Bool) → History → ℕ
command_count test A = length (filter (λ entry. test entry.command.act) A)

-- all that the accepted commands say, the last first
abbrev pub values_of_acts : {X : Type 0} → (Act → Option X) → History → List X
values_of_acts says A = filter_map (λ entry. says entry.command.act) A

-- what the last entry of those that say something says
abbrev pub last_value_of_entries : {X : Type 0} → (Entry → Option X) → History → Option X
last_value_of_entries says [] = None
last_value_of_entries says (entry ∷ A) = option_or (says entry) (last_value_of_entries says A)

-- what the last command of those that say something says
abbrev pub last_value_of_acts : {X : Type 0} → (Act → Option X) → History → Option X
last_value_of_acts says A = last_value_of_entries (λ entry. says entry.command.act) A

-- what the last command of those that say something says, by the history before it
abbrev pub last_value_with_history : {X : Type 0} → (History → Act → Option X) → History → Option X
last_value_with_history says [] = None
last_value_with_history says (entry ∷ A) = option_or (says A entry.command.act) (last_value_with_history says A)

-- the things of a list put in front of others, one after the other: the last of them stands first
abbrev pub pushed_onto : {X : Type 0} → List X → List X → List X
pushed_onto [] older = older
pushed_onto (x ∷ xs) older = pushed_onto xs (x ∷ older)

-- the greater of two numbers, if there is a second
abbrev pub max_with : ℕ → Option ℕ → ℕ
max_with n None = n
max_with n (Some m) = max n m

-- the greatest of a list of numbers
abbrev pub greatest : List ℕ → Option ℕ
greatest [] = None
greatest (n ∷ ns) = Some (max_with n (greatest ns))

-- the greater of a number so far, if there is one, and one more
abbrev pub max_option : Option ℕ → ℕ → Option ℕ
max_option None n = Some n
max_option (Some m) n = if nat_le n m then Some m else Some n

-- the entry of the key
abbrev pub entry_of : History → List ℕ → Option Entry
entry_of A key = find (λ entry. same_text entry.command.key key) A
