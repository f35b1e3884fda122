-- What is true of every text and of every condition.
use Rattle.std.specs.Prelude.{◌≡◌, ◌⊎◌, ℕ, List, []}
use Rattle.ssql_parse.specs.declared.not_a_script.NotAScript.{NotAScript}
use Rattle.ssql_parse.specs.declared.not_a_script.NotAScript.TheVariants.{OutOfMemory}
use Rattle.ssql_parse.specs.Grammar.{Cond, cond_depth, cond_pieces}
use Rattle.ssql_parse.specs.Depth.{deepest}
use Rattle.ssql_parse.specs.declared.statement.Statement.{Statement}
use Rattle.ssql_parse.specs.Parsing.{WrittenScript, ReadsScript, IsScriptOf, IsScript, IsNotAScript}
use Rattle.ssql_parse.specs.Printing.{printed}

-- a text spells one script at most
abbrev pub OneScript : Type 0
OneScript = (text : List ℕ) (a b : WrittenScript) → IsScriptOf text a → IsScriptOf text b → a ≡ b

-- a text that spells a script is refused for want of memory alone
abbrev pub ScriptOrRefusal : Type 0
ScriptOrRefusal = (text : List ℕ) (script : WrittenScript) (why : NotAScript) → IsScriptOf text script → IsNotAScript text why → why ≡ OutOfMemory

-- but for want of memory, a text is refused in one way at most
abbrev pub OneRefusal : Type 0
OneRefusal = (text : List ℕ) (a b : NotAScript) → IsNotAScript text a → IsNotAScript text b → (a ≡ OutOfMemory) ⊎ ((b ≡ OutOfMemory) ⊎ (a ≡ b))

-- the depth that is found piece by piece is the depth by cases on the grammar
abbrev pub DepthGoesByCases : Type 0
DepthGoesByCases = (c : Cond) → deepest (cond_pieces c) [] ≡ cond_depth c

-- what is printed of a script spells its statements
abbrev pub PrintedIsRead : Type 0
PrintedIsRead = (statements : List Statement) (places : List ℕ) → IsScript statements places → (at : List ℕ) × ReadsScript (printed statements) statements at
