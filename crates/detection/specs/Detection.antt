-- Detection leaves. Document 01, "Detection leaves", after the CPUID part of source document 001.
use Rattle.std.specs.Prelude.{true, false, ℕ, ◌+◌, ◌%◌, ◌^◌, eqb}
use Rattle.detection.specs.declared.Leaf.{Leaf}

-- "ECX with bit 31 set, the rest passed on"
unfoldable pub marked : Leaf → Leaf
marked passed = record { eax = passed.eax; ebx = passed.ebx; ecx = passed.ecx % 2 ^ 31 + 2 ^ 31; edx = passed.edx }

-- "0x40000000: 0x40000001, 0x6c69614a, 0x73756f68, 0x00000065"
unfoldable pub signature : Leaf
signature = record { eax = 0x40000001; ebx = 0x6c69614a; ecx = 0x73756f68; edx = 0x00000065 }

-- "0x40000001: four zeros"
unfoldable pub features : Leaf
features = record { eax = 0; ebx = 0; ecx = 0; edx = 0 }

-- "Leaf 1: .. 0x40000000: .. 0x40000001: .. Others passed on"
unfoldable pub cpuid : ℕ → Leaf → Leaf
cpuid leaf passed =
    elim (eqb leaf 1) [
      | true ↦ marked passed
      | false ↦ elim (eqb leaf 0x40000000) [ true ↦ signature | false ↦ elim (eqb leaf 0x40000001) [ true ↦ features | false ↦ passed ] ]
    ]
