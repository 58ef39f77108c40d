-- How much a text may have.
use Rattle.std.specs.Prelude.{ℕ, ◌-◌, ◌^◌}

abbrev pub function_limit : ℕ
function_limit = 64

-- of a function
abbrev pub instruction_limit : ℕ
instruction_limit = 256

-- the most parameters of a function
abbrev pub parameter_limit : ℕ
parameter_limit = 4

-- the most calls that a thread has open at once
abbrev pub depth_limit : ℕ
depth_limit = 8

-- v0 to v15
abbrev pub variable_count : ℕ
variable_count = 16

abbrev pub last_variable : ℕ
last_variable = 15

-- a target is the number of an instruction, from 0
abbrev pub target_count : ℕ
target_count = 256

abbrev pub last_target : ℕ
last_target = 255

-- the greatest value of a number, which has 32 bits
abbrev pub value_limit : ℕ
value_limit = 2 ^ 32 - 1

-- the most cells of a list in a text of version 1 or 2
abbrev pub text_cells : ℕ
text_cells = 8

-- the most cells of any list
abbrev pub cell_limit : ℕ
cell_limit = 64

-- static lines have numbers from 0
abbrev pub static_limit : ℕ
static_limit = 16

abbrev pub last_static : ℕ
last_static = 15

-- the most numbers of a static line
abbrev pub static_number_limit : ℕ
static_number_limit = 64

-- the index of an item, from 0; a list may have fewer cells
abbrev pub index_count : ℕ
index_count = 256

abbrev pub last_index : ℕ
last_index = 255

-- the paths and the peers that a run may be given, from 0
abbrev pub path_count : ℕ
path_count = 16

abbrev pub last_path : ℕ
last_path = 15

abbrev pub peer_count : ℕ
peer_count = 16

abbrev pub last_peer : ℕ
last_peer = 15

-- the most bytes of one `read`
abbrev pub read_limit : ℕ
read_limit = 4096

-- the most times that an instruction `again` goes back in one call
abbrev pub turn_limit : ℕ
turn_limit = 2 ^ 16 - 1

-- the bytes of a name, and those after its first letter
abbrev pub name_limit : ℕ
name_limit = 16

abbrev pub name_rest_limit : ℕ
name_rest_limit = 15
