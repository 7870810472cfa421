mod Amounts_apart
