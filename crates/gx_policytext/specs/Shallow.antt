-- What may stand in a policy file.
use Rattle.std.specs.{Prelude.{Bool, true, ◌&&◌, ◌||◌, is_some}, Option.option_map_or}
use Rattle.toml.specs.Data.{Data, Items, no_items, item, Members, no_members, member, as_str, as_integer, as_array, as_table}

-- each item of an array
abbrev pub all_items : (Data → Bool) → Items → Bool
all_items p no_items = true
all_items p (item value items) = p value && all_items p items

-- each value of a table
abbrev pub all_members : (Data → Bool) → Members → Bool
all_members p no_members = true
all_members p (member key value entry) = p value && all_members p entry

-- a string or an integer
abbrev pub is_plain : Data → Bool
is_plain value = is_some (as_str value) || is_some (as_integer value)

-- one of these, or an array of them
abbrev pub is_field : Data → Bool
is_field value = option_map_or (all_items is_plain) (as_array value) (is_plain value)

-- one of these, or a table of them
abbrev pub is_entry : Data → Bool
is_entry value = option_map_or (all_members is_field) (as_table value) (is_field value)

-- a string, an integer or an array of entries
abbrev pub is_shallow : Data → Bool
is_shallow value = option_map_or (all_items is_entry) (as_array value) (is_plain value)
