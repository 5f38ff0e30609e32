-- Texts as bytes.
use Prim.Native.Nat.{ℕ}
use Prim.Native.Char.{code}
use Prim.Native.String.{String, [] as noText, _∷_ as _then_}
use mathlib.Core.List.{List, [], _∷_}

-- the bytes of a text in ASCII
unfoldable pub bytes : String → List ℕ
bytes noText = []
bytes (c then s) = code c ∷ bytes s
